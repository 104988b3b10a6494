-- the names of the members of a script
use Rattle.std.specs.Prelude.{ℕ, List, codes}
use Rattle.chi_script.specs.declared.member.Member.{Member}
use Rattle.chi_script.specs.declared.member.Member.TheVariants.{Base, Granules, Image, Requests, Src, Txn, Opcode, Size, Addr, Endian, Be, Lanes}

abbrev pub member_name : Member → List ℕ
member_name Base = codes "base"
member_name Granules = codes "granules"
member_name Image = codes "image"
member_name Requests = codes "requests"
member_name Src = codes "src"
member_name Txn = codes "txn"
member_name Opcode = codes "op"
member_name Size = codes "size"
member_name Addr = codes "addr"
member_name Endian = codes "endian"
member_name Be = codes "be"
member_name Lanes = codes "lanes"
