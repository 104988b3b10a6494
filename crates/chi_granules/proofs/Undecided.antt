-- how many states were looked at of granules that are not decided
use Rattle.std.proofs.Common.{◌≡◌, ℕ, ◌-◌, ◌≤◌, List, [], ◌∷◌, ◌++◌, All, sym, subst, arith}
use Rattle.std.proofs.lemmas.List.Elements.{All-push, All-weaker}
use Rattle.chi_search.specs.Looks.{LookedAtLeast, LookedMore, LookedSome, Search}
use Rattle.chi_search.proofs.Looking.{at_least_after, at_least_before}
use Rattle.chi_page.specs.declared.drawn.Drawn.{Drawn}
use Rattle.chi_judge.specs.declared.standing.Standing.{Standing}
use Rattle.chi_judge.specs.declared.standing.Standing.TheVariants.{Explained, Unexplained, Undecided}
use Rattle.chi_judge.specs.Standings.{IfUndecided as IfNeither}
use Rattle.chi_granules.specs.Judged.{IfUndecided}

-- what follows of one that was not decided
neither_implies : (f : Standing) (A B : Type 0) → (A → B) → IfNeither f A → IfNeither f B
neither_implies Explained A B implies a = tt
neither_implies Unexplained A B implies a = tt
neither_implies Undecided A B implies a = implies a

-- of granules that were not decided
pub undecided_imply : (A B : Type 0) → (A → B) → (drawn : List Drawn) → All (λ d. IfUndecided d A) drawn → All (λ d. IfUndecided d B) drawn
undecided_imply A B implies = All-weaker (λ d. IfUndecided d A) (λ d. IfUndecided d B) (λ d. neither_implies d.finding A B implies)

-- one more is judged, and its budget is left with the rest
module _ {P : Type 0} (looked : Search → P → ℕ → Type 0) (old middle new : P) where
  pub one_more : (budget left : ℕ) (before after : List Drawn) (drawn : Drawn) → after ≡ before ++ drawn ∷ [] → LookedSome looked old middle
      → All (λ d. IfUndecided d (LookedAtLeast looked old middle budget)) before → (left ≤ budget) × LookedMore looked middle new (budget - left)
      → IfUndecided drawn (left ≡ 0) → All (λ d. IfUndecided d (LookedAtLeast looked old new budget)) after
  one_more budget left before after drawn is some said spent none =
      subst (All (λ d. IfUndecided d (LookedAtLeast looked old new budget))) (sym is)
      (All-push (λ d. IfUndecided d (LookedAtLeast looked old new budget)) before drawn
      (undecided_imply (LookedAtLeast looked old middle budget) (LookedAtLeast looked old new budget)
      (λ least. at_least_before looked old middle new budget least (budget - left, spent.1)) before said)
      (neither_implies drawn.finding (left ≡ 0) (LookedAtLeast looked old new budget)
      (λ zero. at_least_after looked old middle new budget some (budget - left, omega (arith, zero), spent.1)) none))
