-- a number of 64 bits has at most 20 digits
use Rattle.std.proofs.lemmas.Fmt.{length-decimal-le}
use Rattle.std.proofs.Common.{rules}
use Rattle.chi_text.proofs.part.decimal_in.Goals as goal

pub write_digits-first-requires : goal.write_digits-first-requires
write_digits-first-requires c = search (rules, length-decimal-le 20)
