-- the operations of one granule, among those of an order of the whole trace
use Rattle.std.proofs.Common.{◌≡◌, ℕ, ◌≤◌, ◌==◌, ◌&&◌, Bool, true, false, cond, List, [], ◌∷◌, filter, Option, refl, sym, subst, ◌∙◌, arith, eqb-true, true≢false}
use Rattle.std.proofs.lemmas.List.Elements.{All-head, All-tail}
use Rattle.std.proofs.lemmas.Option.{IfSome_then}
use Rattle.chi_fields.specs.Access.{IsLawful}
use Rattle.chi_lanes.specs.After.{after}
use Rattle.chi_lanes.specs.Memory.{Memory, IsMemory}
use Rattle.chi_lanes.proofs.AfterLemmas.{IsMemory-after}
use Rattle.chi_history.specs.History.{one_if}
use Rattle.chi_trace.specs.declared.operation.Operation.{Operation}
use Rattle.chi_trace.specs.Explains.{Answers, Explains, IsTrace, at, is_answered, is_place, memory_after, times_in, word_of}
use Rattle.chi_trace.specs.Granules.{ExplainsGranule, Fits, Play, granule_of, is_of, last_word, next}
use Rattle.chi_trace.proofs.Orders.{ArePlaces, IsInTime-filter, observed_at, places_of, times_in-filter}
use Rattle.chi_trace.proofs.Steps.{fits_at, next-below, word_of-next, word_of-other, word_of-own}

-- the granule's operations play from its word, and leave its word after the order
pub project : (trace : List Operation) (g : ℕ) (order : List ℕ) (m : Memory) → IsTrace trace → IsMemory m → ArePlaces trace order → Answers trace m order
    → Play trace (word_of m g) (filter (is_of trace g) order)
    × (word_of (memory_after trace m order) g ≡ last_word trace (word_of m g) (filter (is_of trace g) order))
unfolding Answers memory_after Play last_word
project trace g [] m is is_m places answers = (tt, refl)
project trace g (i ∷ order) m is is_m places answers =
    by_test (is_place trace i) refl (granule_of (at trace i) == g) refl
    (project trace g order next_memory is (IsMemory-after (at trace i).access m is_m lawful) (All-tail (λ j. is_place trace j ≡ true) i order places) answers.1)
  where
    place : is_place trace i ≡ true
    place = All-head (λ j. is_place trace j ≡ true) i order places

    lawful : IsLawful (at trace i).access
    lawful = (observed_at trace i is place).lawful

    next_memory : Memory
    next_memory = after (at trace i).access m

    rest : List ℕ
    rest = filter (is_of trace g) order

    last : ℕ
    last = word_of (memory_after trace next_memory order) g

    by_test : (b : Bool) → is_place trace i ≡ b → (d : Bool) → (granule_of (at trace i) == g) ≡ d
        → Play trace (word_of next_memory g) rest × (last ≡ last_word trace (word_of next_memory g) rest)
        → Play trace (word_of m g) (cond (b && d) (i ∷ rest) rest) × (last ≡ last_word trace (word_of m g) (cond (b && d) (i ∷ rest) rest))
    by_test true inside true here h =
        let own = eqb-true (granule_of (at trace i)) g here in
        let leaves : next (at trace i) (word_of m g) ≡ word_of next_memory g = word_of-next (at trace i) m g is_m lawful own in (
          (
            subst (Fits (at trace i)) (sym (word_of-own (at trace i) m g own)) (fits_at (at trace i) m is_m lawful answers.0),
            next-below (at trace i) (word_of m g) lawful,
            subst (λ (w : ℕ). Play trace w rest) (sym leaves) h.0,
          ),
          subst (λ (w : ℕ). last ≡ last_word trace w rest) (sym leaves) h.1,
        )
    by_test true inside false here h =
        let stays : word_of next_memory g ≡ word_of m g = word_of-other (at trace i) m g lawful here in (
          subst (λ (w : ℕ). Play trace w rest) stays h.0,
          subst (λ (w : ℕ). last ≡ last_word trace w rest) stays h.1,
        )
    by_test false outside d here h = absurd (true≢false (sym place ∙ outside))

-- what an order of the whole trace has of a granule explains it, and leaves its word
pub part_explains : (opening : Memory) (final_words : ℕ → Option ℕ) (trace : List Operation) (order : List ℕ) → IsMemory opening → IsTrace trace
    → Explains opening final_words trace order → (g : ℕ)
    → ExplainsGranule trace g (word_of opening g) (final_words g) (filter (is_of trace g) order)
    × (word_of (memory_after trace opening order) g ≡ last_word trace (word_of opening g) (filter (is_of trace g) order))
part_explains opening final_words trace order is_m is e g =
    let part = project trace g order opening is is_m (places_of trace order e.once) e.answers in (
      record {
        done = λ i. rw (times_in-filter (is_of trace g) order i) (done i (is_place trace i) (is_answered (at trace i)) (granule_of (at trace i) == g) (e.done i));
        once = λ i. rw (times_in-filter (is_of trace g) order i) (once i (is_place trace i) (granule_of (at trace i) == g) (e.once i));
        times = IsInTime-filter trace (is_of trace g) order e.times;
        plays = part.0;
        ending = IfSome_then (final_words g) (e.ending g) (λ w is_w. sym part.1 ∙ is_w);
      },
      part.1,
    )
  where
    done : (i : ℕ) (a b h : Bool) → one_if (a && b) ≤ times_in order i → one_if ((a && h) && b) ≤ cond (a && h) (times_in order i) 0
    done i true b true whole = whole
    done i true b false whole = omega arith
    done i false b h whole = omega arith

    once : (i : ℕ) (a h : Bool) → times_in order i ≤ one_if a → cond (a && h) (times_in order i) 0 ≤ one_if (a && h)
    once i true true whole = whole
    once i true false whole = omega arith
    once i false h whole = omega arith
