-- operations of a granule whose answer may be the one that is wrong
use Rattle.std.proofs.Common.{◌≡◌, ℕ, ◌+◌, ◌<◌, ◌≤◌, ◌⊎◌, true, None, Option, Some, List, [], ◌∷◌, All, IfSome, filter, inl, inr, length, slice_get, take, refl, sym, ap, subst, ◌∙◌, arith}
use Rattle.std.specs.Prelude.{IsPermutation}
use Rattle.std.specs.List.{Contains}
use Rattle.std.proofs.lemmas.List.{take_more}
use Rattle.std.proofs.lemmas.List.Elements.{All-append, All-cons, All-contains, All-contains_itself, All-filter, All-head, All-map, All-nil, All-weaker}
use Rattle.std.proofs.lemmas.List.Sorted.{All-permutation}
use Rattle.chi_search.proofs.Sets.{Contains-map}
use Rattle.chi_trace.specs.AtPlaces.{GranulesStandAlone, at_places, is_in}
use Rattle.chi_trace.specs.Explains.{at, is_answered, nothing}
use Rattle.chi_trace.specs.declared.operation.Operation.{Operation}
use Rattle.chi_judge.specs.Judges.{JudgeValue}
use Rattle.chi_judge.specs.Legal.{IsAnsweredAt, IsSuspect, IsSuspectAt, MayBeSuspectAt}
use Rattle.chi_judge.specs.Reaches.{IsJudgeOf}
use Rattle.chi_judge.specs.Searches.{IsSeen, is_during}
use Rattle.chi_judge.specs.Shown.{IsOfFirstRequest}
use Rattle.chi_judge.proofs.Answered.{explained_with, kept_with}
use Rattle.chi_judge.proofs.Before.{all_last}

module _ (law : GranulesStandAlone) (trace : List Operation) (g w : ℕ) (r : JudgeValue) (is : IsJudgeOf trace g w r) (time : ℕ) (seen : IsSeen r time) where
  -- each that was found is one
  pub are_suspects : (places : List ℕ) → All (λ i. i < length r.kept) places → All (IsSuspectAt r.before r.kept time) places → All (IsSuspect trace g w time) (at_places r.kept places)
  are_suspects places within suspects =
      All-map (IsSuspect trace g w time) (at r.kept) places
      (All-weaker (Contains places) (λ i. IsSuspect trace g w time (at r.kept i)) one places (All-contains_itself places))
    where
      one : (i : ℕ) → Contains places i → IsSuspect trace g w time (at r.kept i)
      one i there =
          let s = All-contains (IsSuspectAt r.before r.kept time) places i suspects there in
          let inside = All-contains (λ i. i < length r.kept) places i within there in
          record { ends = s.is.ends; answered = s.is.answered; without = explained_with law trace g w r is time seen i inside None s.leads }

  -- and each that is one was found, or so much was looked at
  pub has_suspects : {L : Type 0} (places : List ℕ) → r.since ≤ time → ((i : ℕ) → i < length r.kept → MayBeSuspectAt r.before r.kept time i → Contains places i ⊎ L)
      → (op : Operation) → IsSuspect trace g w time op → Contains (at_places r.kept places) op ⊎ L
  has_suspects places from all op s =
      let kept = kept_with law trace g w r is time seen op None s.without (omega (arith, from, s.ends)) lasting (omega (arith, s.ends)) in
      let place = kept.0 in
      let here : at r.kept place ≡ op = kept.2 in
      elim (all place kept.1
      (record {
        may = is.keeps.next;
        within = is.keeps.within;
        is = subst (λ (o : Operation). (o.end ≡ time) × (is_answered o ≡ true) → IsAnsweredAt r.kept time place) here (λ so. record { ends = so.0; answered = so.1 }) (s.ends, s.answered);
        leads = kept.3;
      })) [
        | inl there ↦ inl (subst (Contains (at_places r.kept places)) here (Contains-map (at r.kept) places place there))
        | inr spent ↦ inr spent
      ]
    where
      lasting : op.start ≤ op.end
      lasting = All-head (λ (o : Operation). o.start ≤ o.end) op s.without.others
          (All-permutation (λ (o : Operation). o.start ≤ o.end) (filter (is_in g) trace) (op ∷ s.without.others) s.without.each
          (All-filter (is_in g) (λ (o : Operation). o.start ≤ o.end) trace (all_last trace is.traced)))

-- the first of them is at the place that is blamed
pub first_blamed : (ops : List Operation) (places : List ℕ) (blamed : ℕ) (op : Operation) → op ≡ at ops blamed → IfSome (slice_get places 0) (λ place. Some blamed ≡ Some place)
    → IfSome (slice_get (at_places ops places) 0) (λ suspect. op ≡ suspect)
first_blamed ops [] blamed op is first = tt
first_blamed ops (place ∷ places) blamed op is first = is ∙ ap (λ (o : Option ℕ). at ops (option_or_zero o)) first
  where
    option_or_zero : Option ℕ → ℕ
    option_or_zero None = 0
    option_or_zero (Some n) = n

-- where no suspects are shown no places were found
pub no_places : (ops : List Operation) (places : List ℕ) → at_places ops places ≡ [] → places ≡ []
no_places ops [] none = refl
no_places ops (place ∷ places) none = absurd (omega (arith, ap length none))

-- the first request of all is the first of those that were open
pub open_of_first : (time number : ℕ) (ops during : List Operation) → IsPermutation (filter (is_during time) ops) during → IsOfFirstRequest ops time number → IsOfFirstRequest during time number
open_of_first time number ops during moved first =
    All-permutation (λ (op : Operation). is_answered op ≡ true → op.end ≡ time → number ≤ op.number) (filter (is_during time) ops) during moved
    (All-filter (is_during time) (λ (op : Operation). is_answered op ≡ true → op.end ≡ time → number ≤ op.number) ops first)

-- one operation more, of whose request and those before none that was answered at the time is earlier
pub first_more : (ops : List Operation) (time first number place : ℕ) → place < length ops → IsOfFirstRequest (take place ops) time first → number ≤ first
    → (is_answered (at ops place) ≡ true → (at ops place).end ≡ time → number ≤ (at ops place).number) → IsOfFirstRequest (take (place + 1) ops) time number
first_more ops time first number place below before le here =
    subst (All NoEarlier) (sym (take_more ops place nothing below))
    (All-append NoEarlier (take place ops) (at ops place ∷ [])
    (All-weaker (λ (op : Operation). is_answered op ≡ true → op.end ≡ time → first ≤ op.number) NoEarlier (λ op than answered ends. let later = than answered ends in omega (arith, le, later)) (take place ops) before)
    (All-cons NoEarlier (at ops place) [] here (All-nil NoEarlier)))
  where
    NoEarlier : Operation → Type 0
    NoEarlier op = is_answered op ≡ true → op.end ≡ time → number ≤ op.number
