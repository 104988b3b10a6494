-- what is known of the states of a search in a part of a granule's word
use Rattle.std.specs.Prelude.{List, Option, ℕ}
use Rattle.chi_trace.specs.declared.operation.Operation.{Operation}
use Rattle.chi_search.specs.declared.part.WordPart.{WordPart}
use Rattle.chi_search.specs.Within.{AllDeadWithin, IsRun}

-- it is a run of bytes, and its dead states are dead
pub record IsPartOf (ops : List Operation) (final_word : Option ℕ) (part : WordPart) : Type 0 where
  pub run : IsRun part.mask
  pub dead : AllDeadWithin part.mask ops final_word part.dead
