-- what is kept of each granule's operations
use Rattle.std.proofs.Common.{◌≡◌, ℕ, ◌+◌, ◌<◌, ◌≤◌, ◌==◌, ◌&&◌, ◌||◌, Bool, true, false, cond, nat_le, List, [], ◌∷◌, ◌++◌, All, filter, length, unwrap_or, Option, Some, None, refl, sym, subst, ap, ◌∙◌, arith, eqb-true, length-append}
use Rattle.std.proofs.lemmas.Bool.{le-leb, leb-true}
use Rattle.std.proofs.lemmas.List.Elements.{All-filter, All-nil, filter-append}
use Rattle.std.proofs.lemmas.List.Folds.{list_any-append}
use Rattle.std.proofs.lemmas.List.Sums.{length-filter}
use Rattle.chi_trace.specs.declared.operation.Operation.{Operation}
use Rattle.chi_trace.specs.Explains.{IsTrace, at}
use Rattle.chi_trace.specs.Granules.{granule_of}
use Rattle.chi_cover.specs.declared.kept.Kept.{Kept}
use Rattle.chi_cover.specs.Open.{AreKept, AreLatest, AreLatestEnds, AreOpen, AreUnlike, HaveStarted, OpenOperations, are_alike, count_from, ended_after, ends_in, ends_of, has_alike, places_in, places_of, up_to_eight}
use Rattle.chi_cover.specs.Traffic.{is_open, open_among}
use Rattle.chi_cover.proofs.Ends.{count_left, one_end_more, still_same}
use Rattle.chi_cover.proofs.Lists.{filter_more, filter_twice}
use Rattle.chi_cover.proofs.Traced.{started}

-- nothing of a map without entries
pub none_kept : (trace : List Operation) (kept : OpenOperations) → kept.entries ≡ [] → AreKept trace 0 kept
unfolding open_among
none_kept trace kept empty =
    let no_ends : (granule : ℕ) → ends_of kept granule ≡ [] = λ granule. rw empty refl in
    let no_places : (granule : ℕ) → places_of kept granule ≡ [] = λ granule. rw empty refl in
    record {
      few = λ granule. let none : length (ends_of kept granule) ≡ 0 = ap length (no_ends granule) in omega arith;
      places = λ granule. subst (All (λ j. j < 0)) (sym (no_places granule)) (All-nil (λ (j : ℕ). j < 0));
      unlike = λ granule. subst (AreUnlike trace) (sym (no_places granule)) (λ j k d earlier below. absurd (omega arith));
      count = λ granule time later. ap (λ ends. up_to_eight (count_from time ends)) (no_ends granule);
      alike = λ granule time op later. ap (λ places. has_alike trace (ended_after trace time places) op) (no_places granule);
    }

-- all that come before an operation have started when it does
have_started : (trace : List Operation) (i : ℕ) → IsTrace trace → i < length trace → HaveStarted trace i (at trace i).start
have_started trace i is below j earlier = let first : j ≤ i = omega arith in started trace j i is first below

-- what is left of it when an operation starts
pub open_now : (trace : List Operation) (i : ℕ) (kept : OpenOperations) (left : Kept) → IsTrace trace → i < length trace → AreKept trace i kept
    → left.ends.items ≡ filter (nat_le (at trace i).start) (ends_of kept (granule_of (at trace i)))
    → left.places.items ≡ ended_after trace (at trace i).start (places_of kept (granule_of (at trace i))) → AreOpen trace i left
open_now trace i kept left is below before ends places =
    let own = granule_of (at trace i) in
    let time = (at trace i).start in
    let later = have_started trace i is below in
    record {
      places = subst (All (λ j. j < i)) (sym places) (All-filter _ (λ j. j < i) (places_of kept own) (before.places own));
      count = ap (λ ends. up_to_eight (length ends)) ends ∙ (ap up_to_eight (length-filter (nat_le time) (ends_of kept own)) ∙ before.count own time later);
      alike = λ op. ap (λ places. has_alike trace places op) places ∙ before.alike own time op later;
    }

-- those that are left at a time are the same at each later one
ended_twice : (trace : List Operation) (from to : ℕ) (places : List ℕ) → from ≤ to → ended_after trace to (ended_after trace from places) ≡ ended_after trace to places
ended_twice trace from to places later =
    filter_twice (λ j. nat_le from (at trace j).end) (λ j. nat_le to (at trace j).end)
    (λ j open_then. let ends : to ≤ (at trace j).end = leb-true to (at trace j).end open_then in le-leb from (at trace j).end (omega arith)) places

-- one operation more is among the first
open_more : (trace : List Operation) (i granule time : ℕ)
    → open_among trace (i + 1) granule time ≡ open_among trace i granule time ++ cond (is_open granule time (at trace i)) (i ∷ []) []
unfolding open_among
open_more trace i granule time = filter_more (λ j. is_open granule time (at trace j)) i

-- what is kept with one operation more
module _ (trace : List Operation) (i : ℕ) (old new : OpenOperations) (ends places : List ℕ) (before : AreKept trace i old)
    (latest_ends : AreLatestEnds (filter (nat_le (at trace i).start) (ends_of old (granule_of (at trace i))) ++ (at trace i).end ∷ []) ends)
    (first : All (λ j. j < i + 1) places)
    (latest : AreLatest trace (ended_after trace (at trace i).start (places_of old (granule_of (at trace i))) ++ i ∷ []) places)
    (ends_are : (granule : ℕ) → ends_of new granule ≡ cond (granule_of (at trace i) == granule) ends (ends_of old granule))
    (places_are : (granule : ℕ) → places_of new granule ≡ cond (granule_of (at trace i) == granule) places (places_of old granule)) where
  abbrev own : ℕ
  own = granule_of (at trace i)

  earlier : (time : ℕ) → HaveStarted trace (i + 1) time → HaveStarted trace i time
  earlier time later j below = later j (omega arith)

  few : (granule : ℕ) → length (ends_of new granule) ≤ 8
  few granule = subst (λ ends. length ends ≤ 8) (sym (ends_are granule)) (by_test (own == granule))
    where
      by_test : (test : Bool) → length (cond test ends (ends_of old granule)) ≤ 8
      by_test true = latest_ends.few
      by_test false = before.few granule

  inside : (granule : ℕ) → All (λ j. j < i + 1) (places_of new granule)
  inside granule = subst (All (λ j. j < i + 1)) (sym (places_are granule)) (by_test (own == granule))
    where
      by_test : (test : Bool) → All (λ j. j < i + 1) (cond test places (places_of old granule))
      by_test true = first
      by_test false = λ k d under. let there = before.places granule k d under in omega (arith, there)

  unlike : (granule : ℕ) → AreUnlike trace (places_of new granule)
  unlike granule = subst (AreUnlike trace) (sym (places_are granule)) (by_test (own == granule))
    where
      by_test : (test : Bool) → AreUnlike trace (cond test places (places_of old granule))
      by_test true = latest.unlike
      by_test false = before.unlike granule

  -- how many are open with it
  open_count : (granule time : ℕ) → length (open_among trace (i + 1) granule time) ≡ length (open_among trace i granule time) + cond (is_open granule time (at trace i)) 1 0
  open_count granule time = ap length (open_more trace i granule time) ∙ (length-append (open_among trace i granule time) _ ∙ ap (λ k. length (open_among trace i granule time) + k) (one (is_open granule time (at trace i))))
    where
      one : (test : Bool) → length (cond test (i ∷ []) []) ≡ cond test 1 0
      one true = refl
      one false = refl

  count : (granule time : ℕ) → HaveStarted trace (i + 1) time → up_to_eight (count_from time (ends_of new granule)) ≡ up_to_eight (length (open_among trace (i + 1) granule time))
  count granule time later =
      ap (λ ends. up_to_eight (count_from time ends)) (ends_are granule) ∙ (by_test (own == granule) refl ∙ ap up_to_eight (sym (open_count granule time)))
    where
      more : Bool → ℕ
      more test = length (open_among trace i granule time) + cond (test && nat_le time (at trace i).end) 1 0

      by_test : (test : Bool) → (own == granule) ≡ test → up_to_eight (count_from time (cond test ends (ends_of old granule))) ≡ up_to_eight (more (own == granule))
      by_test true here =
          let same : own ≡ granule = eqb-true own granule here in
          let from : (at trace i).start ≤ time = later i (omega arith) in
          let left = filter (nat_le (at trace i).start) (ends_of old own) in
          let so_far : up_to_eight (count_from time left) ≡ up_to_eight (length (open_among trace i granule time)) =
          ap up_to_eight (count_left (at trace i).start time (ends_of old own) from)
          ∙ (before.count own time (earlier time later) ∙ ap (λ g. up_to_eight (length (open_among trace i g time))) same) in
          latest_ends.same time
          ∙ (ap up_to_eight (one_end_more time left (at trace i).end)
          ∙ (still_same (count_from time left) (length (open_among trace i granule time)) (cond (nat_le time (at trace i).end) 1 0) so_far ∙ ap (λ t. up_to_eight (more t)) (sym here)))
      by_test false other =
          let none : length (open_among trace i granule time) ≡ more false = omega arith in
          before.count granule time (earlier time later) ∙ (ap up_to_eight none ∙ ap (λ t. up_to_eight (more t)) (sym other))

  alike : (granule time : ℕ) (op : Operation) → HaveStarted trace (i + 1) time
      → has_alike trace (ended_after trace time (places_of new granule)) op ≡ has_alike trace (open_among trace (i + 1) granule time) op
  alike granule time op later =
      ap (λ places. has_alike trace (ended_after trace time places) op) (places_are granule)
      ∙ (by_test (own == granule) refl ∙ sym (ap (λ places. has_alike trace places op) (open_more trace i granule time) ∙ joined (open_among trace i granule time) (is_open granule time (at trace i))))
    where
      one : Bool → Bool
      one test = has_alike trace (cond test (i ∷ []) []) op

      joined : (js : List ℕ) (test : Bool) → has_alike trace (js ++ cond test (i ∷ []) []) op ≡ (has_alike trace js op || one test)
      joined js test = list_any-append (λ j. are_alike (at trace j) op) js (cond test (i ∷ []) [])

      more : Bool → Bool
      more test = has_alike trace (open_among trace i granule time) op || one (test && nat_le time (at trace i).end)

      by_test : (test : Bool) → (own == granule) ≡ test → has_alike trace (ended_after trace time (cond test places (places_of old granule))) op ≡ more (own == granule)
      by_test true here =
          let same : own ≡ granule = eqb-true own granule here in
          let from : (at trace i).start ≤ time = later i (omega arith) in
          let left = ended_after trace (at trace i).start (places_of old own) in
          let so_far : has_alike trace (ended_after trace time left) op ≡ has_alike trace (open_among trace i granule time) op =
          ap (λ js. has_alike trace js op) (ended_twice trace (at trace i).start time (places_of old own) from)
          ∙ (before.alike own time op (earlier time later) ∙ ap (λ g. has_alike trace (open_among trace i g time) op) same) in
          latest.same time op
          ∙ (ap (λ js. has_alike trace js op) (filter-append (λ j. nat_le time (at trace j).end) left (i ∷ []))
          ∙ (joined (ended_after trace time left) (nat_le time (at trace i).end)
          ∙ (ap (λ t. t || one (nat_le time (at trace i).end)) so_far ∙ ap more (sym here))))
      by_test false other =
          before.alike granule time op (earlier time later) ∙ (or_false (has_alike trace (open_among trace i granule time) op) ∙ ap more (sym other))
        where
          or_false : (t : Bool) → t ≡ (t || false)
          or_false true = refl
          or_false false = refl

  pub kept_more : AreKept trace (i + 1) new
  kept_more = record { few = few; places = inside; unlike = unlike; count = count; alike = alike }

-- what is there, or nothing
pub ends_or_none : (found : Option Kept) (none : Kept) → none.ends.items ≡ [] → (unwrap_or found none).ends.items ≡ ends_in found
ends_or_none None none empty = empty
ends_or_none (Some kept) none empty = refl

pub places_or_none : (found : Option Kept) (none : Kept) → none.places.items ≡ [] → (unwrap_or found none).places.items ≡ places_in found
places_or_none None none empty = empty
places_or_none (Some kept) none empty = refl

-- what is found after that of one granule was taken out, and other put in
pub looked_up : {X : Type 0} (f : Option Kept → X) (here : Bool) (old middle new : Option Kept) (after : Kept) → middle ≡ cond here None old → new ≡ cond here (Some after) middle
    → f new ≡ cond here (f (Some after)) (f old)
looked_up f true old middle new after taken put = ap f put
looked_up f false old middle new after taken put = ap f (put ∙ taken)
