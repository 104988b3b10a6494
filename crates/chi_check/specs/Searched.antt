-- the states that were looked at within the limits
use Rattle.std.specs.Prelude.{ℕ, ◌≤◌}
use Rattle.chi_search.specs.Looks.{FoundBy, GrewBy, Search}
use Rattle.chi_answer.specs.declared.answer.Answer.{Answer}
use Rattle.chi_answer.specs.Answers.{IfUndecided}

-- so many were looked at for the verdict, no fewer than the answer says where it was not found
pub record LookedForSearched {P : Type 0} (states : P → ℕ → Type 0) (looked : Search → P → ℕ → Type 0) (old new : P) (answer : Answer) : Type 0 where
  pub count : ℕ
  pub found : FoundBy states looked old new count
  pub grew : GrewBy states old new count
  pub undecided : IfUndecided answer (λ doubt. doubt.states ≤ count)
