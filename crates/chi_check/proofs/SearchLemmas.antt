-- the states that are looked at within the limits
use Rattle.std.proofs.Common.{ℕ, ◌+◌, Option, arith}
use Rattle.chi_search.specs.Looks.{FoundBy, FoundThenLooked, Grew, IsCutShort, Search}
use Rattle.chi_search.proofs.Growing.{at_least_after, grew_found}
use Rattle.chi_answer.specs.declared.answer.Answer.{Answer}
use Rattle.chi_answer.specs.Answers.{LookedForAnswer}
use Rattle.chi_check.specs.Searched.{LookedForSearched}

module _ {P : Type 0} (states : P → ℕ → Type 0) (looked : Search → P → ℕ → Type 0) where
  -- a verdict, and what follows it, after others
  found_after : (old middle new : P) (count more : ℕ) → Grew states old middle → FoundThenLooked states looked middle new count more → FoundBy states looked old new count
  found_after old middle new count more before found n knows =
      let begun = before n knows in
      (begun.0 + count, omega (arith, begun.1), (begun.0 + count + more, omega arith, found begun.0 begun.2))

  pub searched_after : (old middle new : P) (answer : Answer) (cut_short : Option ℕ) → Grew states old middle → LookedForAnswer states looked middle new answer → IsCutShort states looked new cut_short
      → LookedForSearched states looked old new answer
  searched_after old middle new answer cut_short before spent told = record {
    count = spent.count;
    found = found_after old middle new spent.count spent.more before spent.found;
    grew = at_least_after states old middle new spent.count before (grew_found states looked middle new spent.count spent.more cut_short spent.found told);
    undecided = spent.undecided;
  }
