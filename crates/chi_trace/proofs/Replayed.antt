-- the memory after the operations of an order so far
use Rattle.std.proofs.Common.{◌≡◌, ℕ, zero, suc, ◌+◌, ◌<◌, ◌==◌, Bool, true, false, cond, ◌&&◌, ◌||◌, List, [], ◌∷◌, ◌++◌, length, take, get_or, refl, sym, ap, ◌∙◌, arith, add-one, Option, None, Some}
use Rattle.std.specs.List.{list_any}
use Rattle.std.specs.Option.{is_some, unwrap_or}
use Rattle.std.specs.Ordering.{is_eq, nat_cmp}
use Rattle.std.proofs.Math.Bool.{or-false, or-true, or_assoc}
use Rattle.std.proofs.lemmas.Bool.{eqb-true}
use Rattle.std.proofs.lemmas.List.Elements.{All-head, All-tail, All-take}
use Rattle.std.proofs.lemmas.List.Folds.{list_any_more}
use Rattle.chi_lanes.specs.After.{after, answer}
use Rattle.chi_lanes.specs.Memory.{Memory, IsMemory}
use Rattle.chi_lanes.proofs.AfterLemmas.{IsMemory-after}
use Rattle.chi_trace.specs.declared.operation.Operation.{Operation}
use Rattle.chi_trace.specs.Explains.{IsOperation, IsTrace, at, is_place, memory_after, word_of}
use Rattle.chi_trace.specs.Granules.{granule_of, is_of, next}
use Rattle.chi_trace.proofs.Orders.{ArePlaces, observed_at}
use Rattle.chi_trace.proofs.Steps.{word_of-next, word_of-other}
use Rattle.chi_trace.specs.Executions.{is_known, replies_in}
use Rattle.chi_trace.specs.Traces.{TraceValue}
use Rattle.chi_trace.specs.Words.{find_word}
use Rattle.chi_trace.proofs.Entries.{same_key}

pub IsMemory-memory_after : (ops : List Operation) (m : Memory) (order : List ℕ) → IsTrace ops → IsMemory m → ArePlaces ops order → IsMemory (memory_after ops m order)
unfolding memory_after
IsMemory-memory_after ops m [] traced is places = is
IsMemory-memory_after ops m (i ∷ order) traced is places =
    let here : is_place ops i ≡ true = All-head (λ i. is_place ops i ≡ true) i order places in
    IsMemory-memory_after ops (after (at ops i).access m) order traced
    (IsMemory-after (at ops i).access m is (observed_at ops i traced here).lawful) (All-tail (λ i. is_place ops i ≡ true) i order places)

memory_after_more : (ops : List Operation) (m : Memory) (order : List ℕ) (i : ℕ) → i < length order
    → memory_after ops m (take (suc i) order) ≡ after (at ops (get_or order i 0)).access (memory_after ops m (take i order))
unfolding memory_after
memory_after_more ops m [] i under = absurd (omega arith)
memory_after_more ops m (j ∷ order) zero under = refl
memory_after_more ops m (j ∷ order) (suc i) under = let rest : i < length order = omega arith in memory_after_more ops (after (at ops j).access m) order i rest

-- the word of a granule after one more operation
word_after_more : (ops : List Operation) (m : Memory) (order : List ℕ) (i g : ℕ) → IsTrace ops → IsMemory m → ArePlaces ops order → i < length order
    → word_of (memory_after ops m (take (i + 1) order)) g
    ≡ cond (granule_of (at ops (get_or order i 0)) == g) (next (at ops (get_or order i 0)) (word_of (memory_after ops m (take i order)) g)) (word_of (memory_after ops m (take i order)) g)
word_after_more ops m order i g traced is places under =
    rw (add-one i) (ap (λ (n : Memory). word_of n g) (memory_after_more ops m order i under)) ∙ by_test (granule_of op == g) refl
  where
    op : Operation
    op = at ops (get_or order i 0)

    before : Memory
    before = memory_after ops m (take i order)

    is_memory : IsMemory before
    is_memory = IsMemory-memory_after ops m (take i order) traced is (All-take (λ i. is_place ops i ≡ true) i order places)

    observed : IsOperation op
    observed = observed_at ops (get_or order i 0) traced (places i 0 under)

    by_test : (b : Bool) → (granule_of op == g) ≡ b → word_of (after op.access before) g ≡ cond b (next op (word_of before g)) (word_of before g)
    by_test true own = sym (word_of-next op before g is_memory observed.lawful (eqb-true (granule_of op) g own))
    by_test false other = word_of-other op before g observed.lawful other

-- a map that has the words before an operation has those after it, once it has the word that the operation leaves
pub replay_step : (ops : List Operation) (m : Memory) (order : List ℕ) (i g k word : ℕ) (old new : Option ℕ) → IsTrace ops → IsMemory m → ArePlaces ops order → i < length order
    → granule_of (at ops (get_or order i 0)) ≡ k → word ≡ next (at ops (get_or order i 0)) (word_of (memory_after ops m (take i order)) k)
    → unwrap_or old 0 ≡ word_of (memory_after ops m (take i order)) g → new ≡ cond (is_eq (nat_cmp k g)) (Some word) old
    → unwrap_or new 0 ≡ word_of (memory_after ops m (take (i + 1) order)) g
replay_step ops m order i g k word old new traced is places under here word_is old_is new_is =
    ap (λ o. unwrap_or o 0) (new_is ∙ ap (λ b. cond b (Some word) old) (same_key k g))
    ∙ (by_test (k == g) refl ∙ sym (word_after_more ops m order i g traced is places under ∙ ap (λ j. cond (j == g) (next op (word_of before g)) (word_of before g)) here))
  where
    op : Operation
    op = at ops (get_or order i 0)

    before : Memory
    before = memory_after ops m (take i order)

    by_test : (b : Bool) → (k == g) ≡ b → unwrap_or (cond b (Some word) old) 0 ≡ cond b (next op (word_of before g)) (word_of before g)
    by_test true same = word_is ∙ ap (λ j. next op (word_of before j)) (eqb-true k g same)
    by_test false other = old_is

-- and has the words of the granules that are known
pub known_step : (t : TraceValue) (order : List ℕ) (i g k word : ℕ) (old new : Option ℕ) → ArePlaces t.operations order → i < length order
    → granule_of (at t.operations (get_or order i 0)) ≡ k → is_some old ≡ is_known t (take i order) g → new ≡ cond (is_eq (nat_cmp k g)) (Some word) old
    → is_some new ≡ is_known t (take (i + 1) order) g
known_step t order i g k word old new places under here known new_is =
    ap is_some (new_is ∙ ap (λ b. cond b (Some word) old) (same_key k g))
    ∙ (by_test (k == g) ∙ (ap (λ b. b || (k == g)) known ∙ sym more))
  where
    by_test : (b : Bool) → is_some (cond b (Some word) old) ≡ (is_some old || b)
    by_test true = sym (or-true (is_some old))
    by_test false = sym (or-false (is_some old))

    own : is_of t.operations g (get_or order i 0) ≡ (k == g)
    own = ap (λ b. b && (granule_of (at t.operations (get_or order i 0)) == g)) (places i 0 under) ∙ ap (λ j. j == g) here

    more : is_known t (take (i + 1) order) g ≡ (is_known t (take i order) g || (k == g))
    more =
        ap (λ b. is_some (find_word t.opening g) || b) (list_any_more (is_of t.operations g) order i 0 under ∙ ap (λ b. list_any (is_of t.operations g) (take i order) || b) own)
        ∙ sym (or_assoc (is_some (find_word t.opening g)) (list_any (is_of t.operations g) (take i order)) (k == g))

-- an option is known by whether there is a number, and by the number
pub option_is : (o : Option ℕ) (b : Bool) (w : ℕ) → is_some o ≡ b → unwrap_or o 0 ≡ w → o ≡ cond b (Some w) None
option_is None b w some is = ap (λ c. cond c (Some w) None) some
option_is (Some v) b w some is = ap Some is ∙ ap (λ c. cond c (Some w) None) some

-- one reply more
pub replies_in_more : (ops : List Operation) (m : Memory) (order : List ℕ) (i : ℕ) → i < length order
    → replies_in ops m (take (i + 1) order) ≡ replies_in ops m (take i order) ++ answer (at ops (get_or order i 0)).access (memory_after ops m (take i order)) ∷ []
unfolding replies_in memory_after
replies_in_more ops m order i under = rw (add-one i) (go m order i under)
  where
    go : (m : Memory) (order : List ℕ) (i : ℕ) → i < length order
        → replies_in ops m (take (suc i) order) ≡ replies_in ops m (take i order) ++ answer (at ops (get_or order i 0)).access (memory_after ops m (take i order)) ∷ []
    go m [] i under = absurd (omega arith)
    go m (j ∷ order) zero under = refl
    go m (j ∷ order) (suc i) under =
        let rest : i < length order = omega arith in ap (λ rs. answer (at ops j).access m ∷ rs) (go (after (at ops j).access m) order i rest)
