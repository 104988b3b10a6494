-- those so far
use Rattle.std.proofs.Common.{◌≡◌, ◌++◌, flat_map, map, take}
use Rattle.chi_fields.specs.Opcode.{all_ops}
use Rattle.chi_cover.specs.Bins.{kept_of, sign_of}
use Rattle.chi_cover.specs.declared.bin.Bin.TheVariants.{Wrapped}
use Rattle.chi_cover.proofs.group.result_bins.Given as goal

abbrev pub invariant-loop-kept : goal.invariant-loop-kept
invariant-loop-kept l = l.bins.items ≡ flat_map kept_of (take l.kept-index l.kept-items)

abbrev pub invariant-loop-changed : goal.invariant-loop-changed
invariant-loop-changed l = l.bins.items ≡ flat_map kept_of all_ops ++ flat_map sign_of (take l.changed-index l.changed-items)

abbrev pub invariant-loop-len : goal.invariant-loop-len
invariant-loop-len l = l.bins.items ≡ flat_map kept_of all_ops ++ (flat_map sign_of all_ops ++ map Wrapped (take l.len-index l.len-items))
