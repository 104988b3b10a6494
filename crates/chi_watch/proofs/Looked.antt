-- the states that were looked at by one search after another
use Rattle.std.proofs.Common.{◌≡◌, ℕ, ◌+◌, ◌*◌, ◌++◌, ◌∷◌, List, [], All, length, length-append, add-one, ap, sym, subst, ◌∙◌, arith}
use Rattle.std.proofs.Math.Nat.{mul-suc}
use Rattle.std.proofs.lemmas.List.Elements.{All-nil, All-push, All-weaker}
use Rattle.chi_search.specs.Looks.{Grew, GrewBy}
use Rattle.chi_search.proofs.Growing.{at_least_after, at_least_before, at_least_both, grew_less, looked_none, some_after}

module _ {P : Type 0} (looked : P → ℕ → Type 0) where
  -- some, and at least so many for each granule that is not decided
  pub record LookedFor (old new : P) (budget : ℕ) (undecided : List ℕ) : Type 0 where
    pub some : Grew looked old new
    pub whole : All (λ g. GrewBy looked old new budget) undecided
    pub all : GrewBy looked old new (budget * length undecided)

  -- those of one granule more
  one_budget_more : (budget : ℕ) (undecided : List ℕ) (g : ℕ) → budget * length (undecided ++ g ∷ []) ≡ budget * length undecided + budget
  one_budget_more budget undecided g = ap (λ n. budget * n) (length-append undecided (g ∷ []) ∙ add-one (length undecided)) ∙ mul-suc budget (length undecided)

  pub looked_first : (p : P) (budget : ℕ) → LookedFor p p budget []
  looked_first p budget =
      let none = looked_none looked p in
      record {
        some = none;
        whole = All-nil (λ g. GrewBy looked p p budget);
        all = grew_less looked p p 0 (budget * 0) (omega arith) none;
      }

  -- and those of one granule more, which was decided
  pub looked_decided : (old middle new : P) (budget : ℕ) (undecided : List ℕ) → LookedFor old middle budget undecided → Grew looked middle new
      → LookedFor old new budget undecided
  looked_decided old middle new budget undecided before then = record {
    some = some_after looked old middle new before.some then;
    whole = All-weaker (λ g. GrewBy looked old middle budget) (λ g. GrewBy looked old new budget) (λ g whole. at_least_before looked old middle new budget whole then) undecided before.whole;
    all = at_least_before looked old middle new (budget * length undecided) before.all then;
  }

  -- or was not
  pub looked_undecided : (old middle new : P) (budget : ℕ) (undecided : List ℕ) (g : ℕ) → LookedFor old middle budget undecided → GrewBy looked middle new budget
      → LookedFor old new budget (undecided ++ g ∷ [])
  looked_undecided old middle new budget undecided g before then =
      let some = grew_less looked middle new budget 0 (omega arith) then in
      record {
        some = some_after looked old middle new before.some some;
        whole = All-push (λ h. GrewBy looked old new budget) undecided g
            (looked_decided old middle new budget undecided before some).whole (at_least_after looked old middle new budget before.some then);
        all = subst (GrewBy looked old new) (sym (one_budget_more budget undecided g))
            (at_least_both looked old middle new (budget * length undecided) budget before.all then);
      }
