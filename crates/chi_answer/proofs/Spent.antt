-- the states that were looked at on the way to an answer
use Rattle.std.proofs.Common.{◌≡◌, ◌⊎◌, ℕ, ◌+◌, ◌-◌, ◌≤◌, Bool, List, [], Option, None, Some, Result, Ok, Err, IfOk, inl, inr, refl, subst, arith}
use Rattle.chi_verdict.specs.Doubts.{IsAsFar as IsFoundAsFar}
use Rattle.chi_search.specs.Looks.{FoundThenLooked, LookedAtLeast, LookedMore, LookedSome, Search, after_verdict, for_verdict}
use Rattle.chi_judge.proofs.AsFar.{as_far_by}
use Rattle.chi_trace.specs.Words.{word_or_zero}
use Rattle.chi_verdict.specs.declared.first.Blame.{Blame}
use Rattle.chi_trace.specs.Traces.{TraceValue}
use Rattle.chi_answer.specs.Beside.{TellsAll}
use Rattle.chi_answer.specs.declared.answer.Answer.{Answer}
use Rattle.chi_answer.specs.declared.answer.Further.{Further}
use Rattle.chi_reading.specs.TraceText.{RecordedValue}
use Rattle.chi_answer.specs.declared.answer.Answer.TheVariants.{Explained, Blamed, Unexplained, Undecided}
use Rattle.chi_answer.specs.Answers.{IfUndecided, IsAsFar, LookedForAnswer, SaysLegalUnless, SaysUnless, SpentAfter, SpentTwice}

-- what follows of what was spent
legal_weaker : {A B : Type 0} → (A → B) → (blame : Blame) (said : Option Bool) → SaysLegalUnless A blame said → SaysLegalUnless B blame said
legal_weaker f blame (Some is_explained) said = tt
legal_weaker f blame None said = elim said [
  | inl none ↦ inl none
  | inr spent ↦ inr (f spent)
]

all_weaker : {A B : Type 0} → (A → B) → (r : RecordedValue) (granule : ℕ) (beside : List ℕ) → TellsAll A r granule beside → TellsAll B r granule beside
all_weaker f r granule beside all g is = elim (all g is) [
  | inl told ↦ inl told
  | inr spent ↦ inr (f spent)
]

pub said_weaker : {A B : Type 0} {E : Type 0} → (A → B) → (r : RecordedValue) (result : Result Answer E) → IfOk result (SaysUnless r A) → IfOk result (SaysUnless r B)
said_weaker f r (Ok (Explained order)) said = tt
said_weaker f r (Ok (Blamed blame further)) said = (legal_weaker f blame further.to_the_end said.0, all_weaker f r blame.granule further.beside.items said.1)
said_weaker f r (Ok (Unexplained granule words)) said = tt
said_weaker f r (Ok (Undecided doubt)) said = tt
said_weaker f r (Err e) said = tt

module _ {P : Type 0} (looked : Search → P → ℕ → Type 0) (old new : P) (budget left : ℕ) (more : LookedMore looked old new (budget - left)) where
  whole : left ≡ 0 → LookedAtLeast looked old new budget
  whole spent = (budget - left, omega (arith, spent), more)

  -- where it is not found of the legal replies, none is listed, or the whole budget was spent
  legal_by : (blame : Blame) (said : Option Bool) → (said ≡ None → (left ≡ 0) ⊎ (blame.stop.legal.items ≡ [])) → SaysLegalUnless (LookedAtLeast looked old new budget) blame said
  legal_by blame (Some is_explained) unknown = tt
  legal_by blame None unknown = elim (unknown refl) [
    | inl spent ↦ inr (whole spent)
    | inr none ↦ inl none
  ]

  -- and of the other granules too
  pub said_by : (r : RecordedValue) (blame : Blame) (further : Further) → (further.to_the_end ≡ None → (left ≡ 0) ⊎ (blame.stop.legal.items ≡ []))
      → TellsAll (left ≡ 0) r blame.granule further.beside.items → SaysUnless r (LookedAtLeast looked old new budget) (Blamed blame further)
  said_by r blame further unknown all = (legal_by blame further.to_the_end unknown, all_weaker whole r blame.granule further.beside.items all)

module _ {P : Type 0} (states : P → ℕ → Type 0) (looked : Search → P → ℕ → Type 0) where
  -- a search for a verdict, which is told when it begins and when it ends
  pub found_then : (old begun ended new : P) (k : ℕ) → ((n : ℕ) → states old n → looked for_verdict begun n) → LookedMore looked begun ended k
      → ((n : ℕ) → looked for_verdict ended n → looked (after_verdict n) new n) → FoundThenLooked states looked old new k 0
  found_then old begun ended new k begins more ends n knows =
      subst (looked (after_verdict (n + k)) new) (let same : n + k ≡ n + k + 0 = omega arith in same) (ends (n + k) (more for_verdict n (begins n knows)))

  module _ (old middle new : P) (count : ℕ) (found : FoundThenLooked states looked old middle count 0) where
    -- and then others
    pub then_looked : (more : ℕ) → LookedMore looked middle new more → FoundThenLooked states looked old new count more
    then_looked more then n knows =
        subst (looked (after_verdict (n + count)) new) (let same : n + count + 0 + more ≡ n + count + more = omega arith in same) (then (after_verdict (n + count)) (n + count + 0) (found n knows))

    -- an answer that is not undecided
    decided : (answer : Answer) → LookedSome looked middle new → IfUndecided answer (λ doubt. ⊥) → LookedForAnswer states looked old new answer
    decided (Explained order) some none = record { count = count; more = some.0; found = then_looked some.0 some.1; undecided = tt }
    decided (Blamed blame further) some none = record { count = count; more = some.0; found = then_looked some.0 some.1; undecided = tt }
    decided (Unexplained granule words) some none = record { count = count; more = some.0; found = then_looked some.0 some.1; undecided = tt }
    decided (Undecided doubt) some none = absurd none

    pub decided_after : {E : Type 0} (result : Result Answer E) → IfOk result (λ answer. IfUndecided answer (λ doubt. ⊥)) → IfOk result (λ answer. LookedSome looked middle new)
        → IfOk result (LookedForAnswer states looked old new)
    decided_after (Ok answer) none some = decided answer some none
    decided_after (Err e) none some = tt

    -- as many as the budget has
    pub spent_after : (budget : ℕ) → LookedAtLeast looked middle new budget → SpentAfter states looked old new budget
    spent_after budget whole = (count, (whole.0, whole.1, then_looked whole.0 whole.2))

    -- an undecided answer, for which so many states were looked at
    pub undecided_after : {E : Type 0} (budget : ℕ) (result : Result Answer E) → budget ≤ count → IfOk result (λ answer. IfUndecided answer (λ doubt. doubt.states ≡ budget))
        → IfOk result (λ answer. LookedSome looked middle new) → IfOk result (LookedForAnswer states looked old new)
    undecided_after budget (Ok answer) under states_are some = record {
      count = count;
      more = some.0;
      found = then_looked some.0 some.1;
      undecided = by_answer answer states_are;
    }
      where
        by_answer : (a : Answer) → IfUndecided a (λ doubt. doubt.states ≡ budget) → IfUndecided a (λ doubt. doubt.states ≤ count)
        by_answer (Explained order) is = tt
        by_answer (Blamed blame further) is = tt
        by_answer (Unexplained granule words) is = tt
        by_answer (Undecided doubt) is = omega (arith, is, under)
    undecided_after budget (Err e) under states_are some = tt

    -- it is explained as far as was found, by the states of the verdict and as many more
    pub far_after : {E : Type 0} (budget : ℕ) (t : TraceValue) (result : Result Answer E) → budget ≤ count → IfOk result (λ answer. IfUndecided answer (IsFoundAsFar looked middle new budget t))
        → IfOk result (λ answer. IfUndecided answer (IsAsFar states looked old new budget t))
    far_after budget t (Ok (Explained order)) under far = tt
    far_after budget t (Ok (Blamed blame further)) under far = tt
    far_after budget t (Ok (Unexplained granule words)) under far = tt
    far_after budget t (Ok (Undecided doubt)) under far =
        as_far_by (LookedAtLeast looked middle new budget) (SpentTwice states looked old new budget) (λ whole. (count, under, (whole.0, whole.1, then_looked whole.0 whole.2)))
        t.operations doubt.granule (word_or_zero t.opening doubt.granule) doubt.explained far
    far_after budget t (Err e) under far = tt

  -- there is none to say it of, where it was decided
  pub far_decided : {E : Type 0} (old new : P) (budget : ℕ) (t : TraceValue) (result : Result Answer E)
      → IfOk result (λ answer. IfUndecided answer (λ doubt. ⊥)) → IfOk result (λ answer. IfUndecided answer (IsAsFar states looked old new budget t))
  far_decided old new budget t (Ok (Explained order)) none = tt
  far_decided old new budget t (Ok (Blamed blame further)) none = tt
  far_decided old new budget t (Ok (Unexplained granule words)) none = tt
  far_decided old new budget t (Ok (Undecided doubt)) none = absurd none
  far_decided old new budget t (Err e) none = tt
