-- each is a part
use Rattle.std.proofs.Common.{◌-◌, All}
use Rattle.chi_search.specs.Parts.{IsPartOf}
use Rattle.chi_search.proofs.parts.add_parts.Given as goal

abbrev pub invariant-loop-byte : goal.invariant-loop-byte
invariant-loop-byte l = All (IsPartOf l.ops l.fn.final_word) l.parts.items

abbrev pub decreases-loop-byte : goal.decreases-loop-byte
decreases-loop-byte l = 8 - l.byte
