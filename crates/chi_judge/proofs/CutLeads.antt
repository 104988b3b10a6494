-- what leads to a word up to each time, of operations in any order
use Rattle.std.proofs.Common.{◌≡◌, ℕ, zero, suc, ◌+◌, ◌≤◌, ◌&&◌, nat_le, nat_lt, Bool, true, false, cond, List, [], ◌∷◌, All, Option, Some, None, filter, get_or, length, map, refl, sym, ap, subst, ◌∙◌, arith, ltb-true}
use Rattle.std.specs.List.{range_with_len}
use Rattle.std.proofs.Math.ListN.{get_or-map}
use Rattle.std.proofs.lemmas.Bool.{le-leb}
use Rattle.std.proofs.lemmas.Bool.Decides.{nat_tests}
use Rattle.std.proofs.lemmas.List.FromFn.{fill_by_all}
use Rattle.chi_history.specs.History.{one_if}
use Rattle.chi_trace.specs.declared.operation.Operation.{Operation}
use Rattle.chi_trace.specs.AtPlaces.{at_places}
use Rattle.chi_trace.specs.Cuts.{cut, has_started, operation_at}
use Rattle.chi_trace.specs.Explains.{at, is_answered, is_place, nothing, times_in}
use Rattle.chi_trace.specs.Granules.{Finishes, last_word}
use Rattle.chi_trace.specs.Segments.{AreLasting}
use Rattle.chi_trace.proofs.AtPlaces.{told_back}
use Rattle.chi_trace.proofs.Before.{before, ended_stands, in_time_before, started_before, stands_no_more}
use Rattle.chi_trace.proofs.OperationAt.{AreKnown, in_time_known}
use Rattle.chi_trace.proofs.Orders.{places_of, times_in-filter}
use Rattle.chi_trace.proofs.Places.{of_member}
use Rattle.chi_search.specs.Layers.{SomeLeads}
use Rattle.chi_judge.proofs.Earlier.{play_before, play_known}

-- all operations, with what was known of each at a time
abbrev known : ℕ → List Operation → List Operation
known time ops = map (operation_at time) ops

-- each stands where it stood
known_at : (time : ℕ) (ops : List Operation) (i : ℕ) → at (known time ops) i ≡ operation_at time (at ops i)
known_at time ops i = ap (get_or (known time ops) i) (by_test (nat_le 0 time)) ∙ get_or-map (operation_at time) ops i nothing
  where
    by_test : (b : Bool) → nothing ≡ cond b nothing nothing
    by_test true = refl
    by_test false = refl

-- the place is that of an operation that had started
abbrev had_started : ℕ → List Operation → ℕ → Bool
had_started time ops i = is_place ops i && has_started time (at ops i)

-- what finishes all operations finishes, up to the last that had ended, those that had started as they were known then
known_finishes : (time : ℕ) (ops : List Operation) (w : ℕ) (final_word : Option ℕ) (order : List ℕ) → AreLasting ops → Finishes ops (is_place ops) w final_word order
    → Finishes (known time ops) (had_started time ops) w None (before ops time order)
known_finishes time ops w final_word order lasting e = record {
  done = λ i. subst (λ o. one_if (had_started time ops i && is_answered o) ≤ times_in first i) (sym (known_at time ops i)) (done i (nat_le (at ops i).end time) refl);
  once = λ i. grind (arith, e.once i, stands_no_more ops time order i, of_member (λ j. has_started time (at ops j) ≡ true) first i started);
  times = in_time_known ops time (known time ops) first same (in_time_before ops time order e.times);
  plays = play_known ops time (known time ops) w first same (play_before ops time w order e.plays);
  ending = tt;
}
  where
    first : List ℕ
    first = before ops time order

    same : AreKnown ops time (known time ops) first
    same k d below = known_at time ops (get_or first k d)

    lasts : All (λ i. (at ops i).start ≤ (at ops i).end) order
    lasts k d below = let i = get_or order k d in lasting i nothing (ltb-true i (length ops) (places_of ops order e.once k d below))

    started : All (λ i. has_started time (at ops i) ≡ true) first
    started k d below = le-leb (at ops (get_or first k d)).start time (started_before ops time order lasts e.times k d below)

    done : (i : ℕ) (b : Bool) → nat_le (at ops i).end time ≡ b
        → one_if (had_started time ops i && is_answered (cond b (at ops i) (record (at ops i) { reply = None }))) ≤ times_in first i
    done i true ended = grind (arith, ended_stands ops time order i ended, e.done i)
    done i false later = grind arith

-- each number of a range stands in it once, and no other does
in_range : (a n i : ℕ) → times_in (range_with_len a n) i ≡ one_if (nat_le a i && nat_lt i (a + n))
unfolding times_in
in_range a zero i = grind (arith, nat_tests)
in_range a (suc n) i = grind (arith, nat_tests, in_range (a + 1) n i)

-- the places of the operations that had started
abbrev places : ℕ → List Operation → List ℕ
places time ops = filter (λ i. has_started time (at ops i)) (range_with_len 0 (length ops))

each_once : (time : ℕ) (ops : List Operation) (i : ℕ) → times_in (places time ops) i ≡ one_if (had_started time ops i)
each_once time ops i = times_in-filter (λ j. has_started time (at ops j)) (range_with_len 0 (length ops)) i ∙ grind (arith, nat_tests, in_range 0 (length ops) i)

-- what was known of those at some places
known_chosen : (time : ℕ) (ops : List Operation) (x : List ℕ) → at_places (known time ops) x ≡ map (operation_at time) (at_places ops x)
known_chosen time ops [] = refl
known_chosen time ops (i ∷ x) = ap (λ o. o ∷ at_places (known time ops) x) (known_at time ops i) ∙ ap (λ l. operation_at time (at ops i) ∷ l) (known_chosen time ops x)

-- those of them that pass a test
chosen_kept : (p : Operation → Bool) (ops : List Operation) (x : List ℕ) → at_places ops (filter (λ i. p (at ops i)) x) ≡ filter p (at_places ops x)
chosen_kept p ops [] = refl
chosen_kept p ops (i ∷ x) = by_test (p (at ops i)) (chosen_kept p ops x)
  where
    by_test : (b : Bool) → at_places ops (filter (λ j. p (at ops j)) x) ≡ filter p (at_places ops x)
        → at_places ops (cond b (i ∷ filter (λ j. p (at ops j)) x) (filter (λ j. p (at ops j)) x)) ≡ cond b (at ops i ∷ filter p (at_places ops x)) (filter p (at_places ops x))
    by_test true rest = ap (λ l. at ops i ∷ l) rest
    by_test false rest = rest

-- those that had started, as they were known, are the cut
chosen_cut : (time : ℕ) (ops : List Operation) → at_places (known time ops) (places time ops) ≡ cut time ops
chosen_cut time ops =
    known_chosen time ops (places time ops)
    ∙ ap (map (operation_at time)) (chosen_kept (has_started time) ops (range_with_len 0 (length ops))
    ∙ ap (filter (has_started time)) (sym (fill_by_all (at ops) ops (length ops) nothing refl (λ k below. refl))))

-- what leads to a word has led to some word by each time
pub leads_by : (ops : List Operation) (words : List ℕ) (time v : ℕ) → AreLasting ops → SomeLeads ops words v → (u : ℕ) × SomeLeads (cut time ops) words u
leads_by ops words time v lasting (w, has, (order, e)) =
    let own = told_back (known time ops) (had_started time ops) (places time ops) w None (each_once time ops) (before ops time order) (known_finishes time ops w (Some v) order lasting e) in
    let there : Finishes (cut time ops) (is_place (cut time ops)) w None own.0 = subst (λ l. Finishes l (is_place l) w None own.0) (chosen_cut time ops) own.1 in
    (last_word (cut time ops) w own.0, (w, has, (own.0, record { done = there.done; once = there.once; times = there.times; plays = there.plays; ending = refl })))
