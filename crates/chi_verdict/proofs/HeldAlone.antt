-- the words that a granule's own operations leave, and those that it can hold after the whole trace
use Rattle.std.proofs.Common.{◌≡◌, ℕ, ◌==◌, ◌↔◌, Bool, true, false, cond, List, None, Some, filter, refl, sym, ap, subst, ◌∙◌, eqb-true, eq-eqb}
use Rattle.std.specs.List.{Contains}
use Rattle.chi_search.specs.declared.words.Words.{Words}
use Rattle.chi_search.specs.declared.words.Words.TheVariants.{Each, Unknown}
use Rattle.chi_search.specs.Found.{IfWords}
use Rattle.chi_lanes.specs.Memory.{Memory}
use Rattle.chi_trace.specs.declared.operation.Operation.{Operation}
use Rattle.chi_trace.specs.Explains.{IsTrace, memory_after, unobserved, word_of}
use Rattle.chi_trace.specs.Granules.{ExplainsGranule, is_of, last_word}
use Rattle.chi_trace.specs.TraceLaws.{OrdersOfGranulesExplain, PartsExplain}
use Rattle.chi_trace.specs.Traces.{CanHold, IsLegal, TraceValue}
use Rattle.chi_trace.specs.Words.{AreWords, memory_of, word_or_zero}
use Rattle.chi_trace.proofs.Memory.{IsMemory-memory_of, word_of-memory_of}

-- an order that explains a granule and leaves a word explains it where that word was observed at the end
ended : (ops : List Operation) (g w v : ℕ) (own : List ℕ) → ExplainsGranule ops g w None own → last_word ops w own ≡ v → ExplainsGranule ops g w (Some v) own
ended ops g w v own explains is =
    record { done = explains.done; once = explains.once; times = explains.times; plays = explains.plays; ending = is }

-- and the other way round, whatever was observed
unended : (ops : List Operation) (g w v : ℕ) (own : List ℕ) → ExplainsGranule ops g w (Some v) own → ExplainsGranule ops g w None own
unended ops g w v own explains =
    record { done = explains.done; once = explains.once; times = explains.times; plays = explains.plays; ending = tt }

-- where some order explains the whole trace, its granules' orders can each be chosen alone
pub held_alone : OrdersOfGranulesExplain → PartsExplain → (t : TraceValue) → AreWords t.opening → IsTrace t.operations → (order : List ℕ) → IsLegal t order → (g v : ℕ)
    → ((own : List ℕ) × ExplainsGranule t.operations g (word_or_zero t.opening g) (Some v) own) ↔ CanHold t g v
held_alone joins parts t words is order legal g v = (forth, back)
  where
    ops : List Operation
    ops = t.operations

    memory : Memory
    memory = memory_of t.opening

    word : word_of memory g ≡ word_or_zero t.opening g
    word = word_of-memory_of t.opening g words

    forth : ((own : List ℕ) × ExplainsGranule ops g (word_or_zero t.opening g) (Some v) own) → CanHold t g v
    forth (own, explains) = (whole.0, whole.1, (whole.2 g).1 ∙ ap (last_word ops (word_of memory g)) here ∙ from_memory.ending)
      where
        from_memory : ExplainsGranule ops g (word_of memory g) (Some v) own
        from_memory = subst (λ w. ExplainsGranule ops g w (Some v) own) (sym word) explains

        orders : ℕ → List ℕ
        orders h = cond (h == g) own (filter (is_of ops h) order)

        here : orders g ≡ own
        here = ap (λ b. cond b own (filter (is_of ops g) order)) (eq-eqb g g refl)

        each : (h : ℕ) → ExplainsGranule ops h (word_of memory h) None (orders h)
        each h = by_test (h == g) refl
          where
            by_test : (b : Bool) → (h == g) ≡ b → ExplainsGranule ops h (word_of memory h) None (cond b own (filter (is_of ops h) order))
            by_test true same =
                subst (λ k. ExplainsGranule ops k (word_of memory k) None own) (sym (eqb-true h g same)) (unended ops g (word_of memory g) v own from_memory)
            by_test false other = (parts memory unobserved ops order (IsMemory-memory_of t.opening) is legal h).0

        whole : (joined : List ℕ) × IsLegal t joined
            × ((h : ℕ) → (filter (is_of ops h) joined ≡ orders h) × (word_of (memory_after ops memory joined) h ≡ last_word ops (word_of memory h) (orders h)))
        whole = joins memory unobserved ops orders (IsMemory-memory_of t.opening) is each

    back : CanHold t g v → (own : List ℕ) × ExplainsGranule ops g (word_or_zero t.opening g) (Some v) own
    back (held, explains, left) =
        let part = parts memory unobserved ops held (IsMemory-memory_of t.opening) is explains g in
        let own = filter (is_of ops g) held in
        (own, subst (λ w. ExplainsGranule ops g w (Some v) own) word (ended ops g (word_of memory g) v own part.0 (sym part.1 ∙ left)))

-- the words that a granule's operations leave are those that it can hold, where the trace can be explained
pub said_held : OrdersOfGranulesExplain → PartsExplain → (t : TraceValue) → AreWords t.opening → IsTrace t.operations → (g : ℕ) (found : Words)
    → IfWords found (λ each. (v : ℕ) → Contains each v ↔ ((own : List ℕ) × ExplainsGranule t.operations g (word_or_zero t.opening g) (Some v) own))
    → IfWords found (λ each. (order : List ℕ) → IsLegal t order → (v : ℕ) → Contains each v ↔ CanHold t g v)
said_held joins parts t words is g (Each each) h =
    λ order legal v.
    let alone = held_alone joins parts t words is order legal g v in
    (λ has. alone.0 ((h v).0 has), λ can. (h v).1 (alone.1 can))
said_held joins parts t words is g Unknown h = h
