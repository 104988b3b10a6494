-- orders of the whole trace, and of each granule
use Rattle.std.proofs.Common.{◌≡◌, ℕ, ◌+◌, ◌≤◌, ◌==◌, ◌&&◌, Bool, true, false, cond, List, [], ◌∷◌, filter, Option, refl, sym, ap, subst, ◌∙◌, arith, eqb-true, eq-eqb, true≢false}
use Rattle.std.proofs.lemmas.Bool.{and_from}
use Rattle.std.proofs.lemmas.List.Elements.{All-head, All-tail}
use Rattle.std.proofs.lemmas.Option.{IfSome_then}
use Rattle.chi_lanes.specs.Memory.{Memory, IsMemory}
use Rattle.chi_history.specs.History.{one_if}
use Rattle.chi_trace.specs.declared.operation.Operation.{Operation}
use Rattle.chi_trace.specs.Explains.{Explains, IsInTime, IsTrace, at, is_answered, is_place, memory_after, times_in, word_of}
use Rattle.chi_trace.specs.Granules.{ExplainsGranule, granule_of, is_of, last_word}
use Rattle.chi_trace.specs.TraceLaws.{GranulesExplain, OrdersOfGranulesExplain, PartsExplain}
use Rattle.chi_trace.proofs.Assembly.{PartsPlay, assemble, assembled_word}
use Rattle.chi_trace.proofs.Orders.{ArePlaces, times_in-filter}

-- what is no place of the trace does not stand in an order of its places
absent : (trace : List Operation) (order : List ℕ) (i : ℕ) → ArePlaces trace order → is_place trace i ≡ false → times_in order i ≡ 0
unfolding times_in
absent trace [] i places outside = refl
absent trace (j ∷ order) i places outside = by_test (j == i) refl (absent trace order i (All-tail (λ k. is_place trace k ≡ true) j order places) outside)
  where
    by_test : (b : Bool) → (j == i) ≡ b → times_in order i ≡ 0 → one_if b + times_in order i ≡ 0
    by_test true same rest =
        absurd (true≢false (sym (All-head (λ k. is_place trace k ≡ true) j order places) ∙ (ap (is_place trace) (eqb-true j i same) ∙ outside)))
    by_test false same rest = omega arith

-- a place stands in the whole order as often as in its granule's part
times_in-part : (trace : List Operation) (order : List ℕ) (i : ℕ) → is_of trace (granule_of (at trace i)) i ≡ true
    → times_in (filter (is_of trace (granule_of (at trace i))) order) i ≡ times_in order i
times_in-part trace order i own = times_in-filter (is_of trace (granule_of (at trace i))) order i ∙ ap (λ (b : Bool). cond b (times_in order i) 0) own

-- an order in time of places of the trace explains it where each granule's part explains the granule, and leaves its word
pub parts_join : (opening : Memory) (final_words : ℕ → Option ℕ) (trace : List Operation) (order : List ℕ) → IsMemory opening → IsTrace trace
    → ArePlaces trace order → IsInTime trace order
    → ((g : ℕ) → ExplainsGranule trace g (word_of opening g) (final_words g) (filter (is_of trace g) order))
    → Explains opening final_words trace order
    × ((g : ℕ) → word_of (memory_after trace opening order) g ≡ last_word trace (word_of opening g) (filter (is_of trace g) order))
parts_join opening final_words trace order is_m is places times each = (
  record {
    done = λ i. done i (is_place trace i) refl;
    once = λ i. once i (is_place trace i) refl;
    times = times;
    answers = assemble trace order opening is is_m places plays;
    ending = λ g. IfSome_then (final_words g) (each g).ending (λ w is_w. last g ∙ is_w);
  },
  last,
)
  where
    plays : PartsPlay trace opening order
    plays g = (each g).plays

    last : (g : ℕ) → word_of (memory_after trace opening order) g ≡ last_word trace (word_of opening g) (filter (is_of trace g) order)
    last g = assembled_word trace order opening is is_m places plays g

    own : (i : ℕ) → is_place trace i ≡ true → is_of trace (granule_of (at trace i)) i ≡ true
    own i place = and_from (is_place trace i) (granule_of (at trace i) == granule_of (at trace i)) place (eq-eqb (granule_of (at trace i)) (granule_of (at trace i)) refl)

    done : (i : ℕ) (a : Bool) → is_place trace i ≡ a → one_if (a && is_answered (at trace i)) ≤ times_in order i
    done i true place =
        let part = (each (granule_of (at trace i))).done i in
        subst (λ (n : ℕ). one_if (is_answered (at trace i)) ≤ n) (times_in-part trace order i (own i place))
        (subst (λ (b : Bool). one_if (b && is_answered (at trace i)) ≤ times_in (filter (is_of trace (granule_of (at trace i))) order) i) (own i place) part)
    done i false place = omega arith

    once : (i : ℕ) (a : Bool) → is_place trace i ≡ a → times_in order i ≤ one_if a
    once i true place =
        let part = (each (granule_of (at trace i))).once i in
        omega (arith, times_in-part trace order i (own i place), ap one_if (own i place), part)
    once i false place = omega (arith, absent trace order i places place)

-- the same of orders that were given for the granules, where the whole order keeps each
pub orders_join : (opening : Memory) (final_words : ℕ → Option ℕ) (trace : List Operation) (orders : ℕ → List ℕ) (order : List ℕ) → IsMemory opening → IsTrace trace
    → ArePlaces trace order → IsInTime trace order → ((g : ℕ) → filter (is_of trace g) order ≡ orders g)
    → ((g : ℕ) → ExplainsGranule trace g (word_of opening g) (final_words g) (orders g))
    → Explains opening final_words trace order
    × ((g : ℕ) → (filter (is_of trace g) order ≡ orders g)
    × (word_of (memory_after trace opening order) g ≡ last_word trace (word_of opening g) (orders g)))
orders_join opening final_words trace orders order is_m is places times kept each =
    let joined =
    parts_join opening final_words trace order is_m is places times
    (λ g. subst (λ (x : List ℕ). ExplainsGranule trace g (word_of opening g) (final_words g) x) (sym (kept g)) (each g)) in
    (joined.0, λ g. (kept g, joined.1 g ∙ ap (last_word trace (word_of opening g)) (kept g)))

-- a trace can be explained exactly where each granule's operations can
pub granules_explained : OrdersOfGranulesExplain → PartsExplain → GranulesExplain
granules_explained whole parts opening final_words trace is_m is = (
  λ each. let explained = whole opening final_words trace (λ g. (each g).0) is_m is (λ g. (each g).1) in (explained.0, explained.1),
  λ explained g. (filter (is_of trace g) explained.0, (parts opening final_words trace explained.0 is_m is explained.1 g).0),
)
