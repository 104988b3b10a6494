-- the last operations of a granule that had ended by a time, but one of them
use Rattle.std.proofs.Common.{◌≡◌, ℕ, ◌-◌, ◌<◌, ◌≤◌, Bool, true, cond, List, [], ◌∷◌, ◌++◌, All, append-nil, filter, get_or, length, length-drop, take, take-append-drop, lt-ltb, sym, ap, ap₂, subst, ◌∙◌, arith}
use Rattle.std.specs.Prelude.{IsPermutation}
use Rattle.std.specs.List.{AllPairs, Contains, remove}
use Rattle.std.proofs.lemmas.Bool.{le-leb, lt-leb}
use Rattle.std.proofs.lemmas.List.{get_or_default}
use Rattle.std.proofs.lemmas.List.Elements.{All-contains, All-contains_itself, All-filter, All-from_get_or, All-tail, All-weaker, Contains-append_right, filter-append}
use Rattle.std.proofs.lemmas.List.Kept.{AllPairs-filter}
use Rattle.std.proofs.lemmas.List.Quantifiers.{all_pairs_remove}
use Rattle.std.proofs.lemmas.List.Sorted.{All-permutation, IsPermutation-append_right, IsPermutation-middle, IsPermutation-remove, IsPermutation-trans}
use Rattle.chi_trace.specs.declared.operation.Operation.{Operation}
use Rattle.chi_trace.specs.AtPlaces.{is_in}
use Rattle.chi_trace.specs.Explains.{IsTrace, at, nothing}
use Rattle.chi_trace.proofs.Orders.{observed_at}
use Rattle.chi_judge.specs.Reaches.{IsJudgeOf}
use Rattle.chi_judge.specs.Judges.{EndedBefore, EndedWithin, Keeps, JudgeValue}
use Rattle.chi_judge.specs.Searches.{IsSeen}
use Rattle.chi_judge.specs.Shown.{AreBefore, EndsNoLater, had_ended, is_ended_by, last_of}
use Rattle.chi_judge.proofs.Keeping.{late_after}
use Rattle.chi_judge.proofs.Last.{last_more, pairs_append, pairs_by_end}
use Rattle.chi_judge.proofs.Lists.{IsPermutation-filter, filter_both, filter_each, filter_none}

-- each operation of a trace lasts
pub all_last : (trace : List Operation) → IsTrace trace → All (λ op. op.start ≤ op.end) trace
all_last trace traced = All-from_get_or (λ (op : Operation). op.start ≤ op.end) trace nothing (λ i below. (observed_at trace i traced (lt-ltb i (length trace) below)).lasting)

-- an operation that passes goes to the front
passes_first : (p : Operation → Bool) (op : Operation) (ops : List Operation) → p op ≡ true → filter p (op ∷ ops) ≡ op ∷ filter p ops
passes_first p op ops is = ap (λ (b : Bool). cond b (op ∷ filter p ops) (filter p ops)) is

module _ (trace : List Operation) (g w : ℕ) (r : JudgeValue) (is : IsJudgeOf trace g w r) (time : ℕ) (seen : IsSeen r time) (place : ℕ) (within : place < length r.kept) where
  abbrev k : Keeps (w ∷ []) is.told is.now r
  k = is.keeps

  abbrev ops : List Operation
  ops = r.kept

  abbrev others : List Operation
  others = filter (had_ended time) (remove ops place)

  lasting : All (λ op. op.start ≤ op.end) k.later
  lasting =
      let told = All-permutation (λ (op : Operation). op.start ≤ op.end) (filter (is_in g) trace) is.told is.moved
      (All-filter (is_in g) (λ (op : Operation). op.start ≤ op.end) trace (all_last trace is.traced)) in
      let parts = subst (All (λ (op : Operation). op.start ≤ op.end)) k.parts told in
      All-weaker (Contains k.later) (λ (op : Operation). op.start ≤ op.end)
      (λ op there. All-contains (λ (o : Operation). o.start ≤ o.end) (k.earlier ++ (ops ++ k.later)) op parts
      (Contains-append_right k.earlier (ops ++ k.later) op (Contains-append_right ops k.later op there))) k.later (All-contains_itself k.later)

  -- of those that were told these had ended
  ended : filter (had_ended time) is.told ≡ k.earlier ++ filter (had_ended time) ops
  ended =
      ap (filter (had_ended time)) k.parts
      ∙ (filter-append (had_ended time) k.earlier (ops ++ k.later)
      ∙ ap₂ (λ (a b : List Operation). a ++ b)
      (filter_each (had_ended time) k.earlier
      (All-weaker (EndedBefore r.since) (λ (op : Operation). had_ended time op ≡ true) (λ op e. le-leb op.end time (omega (arith, e.1, seen.since))) k.earlier k.ended))
      (filter-append (had_ended time) ops k.later
      ∙ (ap (λ (l : List Operation). filter (had_ended time) ops ++ l) none_later ∙ append-nil (filter (had_ended time) ops))))
    where
      none_later : filter (had_ended time) k.later ≡ []
      none_later = filter_none (had_ended time) k.later
          (λ i d below. lt-leb (get_or k.later i d).end time
          (omega (arith, late_after (w ∷ []) is.told is.now r k time seen.before i d below, lasting i d below)))

  module _ (ends : (at ops place).end ≡ time) where
    had : had_ended time (at ops place) ≡ true
    had = le-leb (at ops place).end time (omega (arith, ends))

    -- the one at the place, and the others
    parted : IsPermutation ops (at ops place ∷ remove ops place)
    parted = IsPermutation-remove ops place (at ops place) within (get_or_default ops place nothing (at ops place) within)

    moved : IsPermutation (filter (is_ended_by g time) trace) (at ops place ∷ (k.earlier ++ others))
    moved =
        subst (λ (l : List Operation). IsPermutation l (at ops place ∷ (k.earlier ++ others))) (sym (filter_both (is_in g) (had_ended time) trace))
        (IsPermutation-trans (filter (had_ended time) (filter (is_in g) trace)) (filter (had_ended time) is.told) (at ops place ∷ (k.earlier ++ others))
        (IsPermutation-filter (had_ended time) (filter (is_in g) trace) is.told is.moved)
        (subst (λ (l : List Operation). IsPermutation l (at ops place ∷ (k.earlier ++ others))) (sym ended)
        (IsPermutation-trans (k.earlier ++ filter (had_ended time) ops) (k.earlier ++ at ops place ∷ others) (at ops place ∷ (k.earlier ++ others))
        (IsPermutation-append_right k.earlier (filter (had_ended time) ops) (at ops place ∷ others)
        (subst (IsPermutation (filter (had_ended time) ops)) (passes_first (had_ended time) (at ops place) (remove ops place) had)
        (IsPermutation-filter (had_ended time) ops (at ops place ∷ remove ops place) parted)))
        (IsPermutation-middle k.earlier (at ops place) others))))

    in_order : AllPairs EndsNoLater (k.earlier ++ others)
    in_order = pairs_append k.earlier others k.in_order
        (AllPairs-filter EndsNoLater (had_ended time) (remove ops place) (all_pairs_remove EndsNoLater ops place within (pairs_by_end ops k.next.sorted.0)))
        (All-weaker (EndedBefore r.since) (λ (op : Operation). All (EndsNoLater op) others) (λ op e. all_others op (omega (arith, e.1))) k.earlier k.ended)
      where
        all_others : (op : Operation) → op.end ≤ r.since → All (EndsNoLater op) others
        all_others op before =
            All-filter (had_ended time) (EndsNoLater op) (remove ops place)
            (All-tail (EndsNoLater op) (at ops place) (remove ops place)
            (All-permutation (EndsNoLater op) ops (at ops place ∷ remove ops place) parted
            (All-weaker (EndedWithin r.since is.now) (EndsNoLater op) (λ other from. omega (arith, before, from.0)) ops k.ends)))

    abbrev whole : List Operation
    whole = k.earlier ++ others

    -- the last of them
    pub are_before : (before : List Operation) → before ≡ last_of r.shown (r.left ++ filter (had_ended time) (remove r.kept place))
        → AreBefore trace g time (at ops place) r.shown before
    are_before before before_is = subst (AreBefore trace g time (at ops place) r.shown) (sym last) (record {
      others = take (length whole - r.shown) whole;
      each = subst (λ (l : List Operation). IsPermutation (filter (is_ended_by g time) trace) (at ops place ∷ l)) (sym (take-append-drop (length whole - r.shown) whole)) moved;
      in_order = subst (AllPairs EndsNoLater) (sym (take-append-drop (length whole - r.shown) whole)) in_order;
      few = omega (arith, length-drop (length whole - r.shown) whole);
      whole = λ fewer. let none : length whole - r.shown ≡ 0 = omega (arith, fewer, length-drop (length whole - r.shown) whole) in ap (λ (n : ℕ). take n whole) none;
    })
      where
        last : before ≡ last_of r.shown whole
        last =
            before_is ∙ (ap (λ (a : List Operation). last_of r.shown (a ++ others)) k.left ∙ last_more r.shown k.earlier others)
