-- an order of operations as they were known at a time
use Rattle.std.proofs.Common.{◌≡◌, ℕ, ◌≤◌, nat_le, Bool, true, false, cond, List, [], ◌∷◌, All, None, IfSome, refl, sym, ap, subst, ◌∙◌}
use Rattle.std.proofs.Math.ListN.{get_or}
use Rattle.std.proofs.lemmas.List.Elements.{All-head, All-tail}
use Rattle.chi_lanes.specs.After.{after, answer}
use Rattle.chi_lanes.specs.Memory.{Memory}
use Rattle.chi_trace.specs.declared.operation.Operation.{Operation}
use Rattle.chi_trace.specs.Cuts.{operation_at}
use Rattle.chi_trace.specs.Explains.{Answers, IsInTime, at}

pub known_start : (time : ℕ) (op : Operation) → (operation_at time op).start ≡ op.start
known_start time op = by_test (nat_le op.end time)
  where
    by_test : (b : Bool) → (cond b op (record op { reply = None })).start ≡ op.start
    by_test true = refl
    by_test false = refl

known_end : (time : ℕ) (op : Operation) → (operation_at time op).end ≡ op.end
known_end time op = by_test (nat_le op.end time)
  where
    by_test : (b : Bool) → (cond b op (record op { reply = None })).end ≡ op.end
    by_test true = refl
    by_test false = refl

-- each operation of the order is so known
abbrev pub AreKnown : List Operation → ℕ → List Operation → List ℕ → Type 0
AreKnown ts time ys x = All (λ i. at ys i ≡ operation_at time (at ts i)) x

-- an order in time stays so
pub in_time_known : (ts : List Operation) (time : ℕ) (ys : List Operation) (x : List ℕ) → AreKnown ts time ys x → IsInTime ts x → IsInTime ys x
unfolding IsInTime
in_time_known ts time ys [] same h = tt
in_time_known ts time ys (i ∷ x) same h = (first, in_time_known ts time ys x rest h.1)
  where
    rest : AreKnown ts time ys x
    rest = All-tail (λ j. at ys j ≡ operation_at time (at ts j)) i x same

    start : (at ys i).start ≡ (at ts i).start
    start = ap (λ o. o.start) (All-head (λ j. at ys j ≡ operation_at time (at ts j)) i x same) ∙ known_start time (at ts i)

    first : All (λ j. (at ys i).start ≤ (at ys j).end) x
    first k d under =
        let j : ℕ = get_or x k d in
        let end : (at ys j).end ≡ (at ts j).end = ap (λ o. o.end) (rest k d under) ∙ known_end time (at ts j) in
        subst (λ n. n ≤ (at ys j).end) (sym start) (subst (λ n. (at ts i).start ≤ n) (sym end) (h.0 k d under))

-- and its replies stay the memory's answers
pub answers_known : (ts : List Operation) (time : ℕ) (ys : List Operation) (m : Memory) (x : List ℕ) → AreKnown ts time ys x → Answers ts m x → Answers ys m x
unfolding Answers
answers_known ts time ys m [] same h = tt
answers_known ts time ys m (i ∷ x) same h =
    subst Told (sym (All-head (λ j. at ys j ≡ operation_at time (at ts j)) i x same)) (by_test (nat_le (at ts i).end time)
    (answers_known ts time ys (after (at ts i).access m) x (All-tail (λ j. at ys j ≡ operation_at time (at ts j)) i x same) h.1))
  where
    Told : Operation → Type 0
    Told o = IfSome o.reply (λ reply. reply ≡ answer o.access m) × Answers ys (after o.access m) x

    by_test : (b : Bool) → Answers ys (after (at ts i).access m) x → Told (cond b (at ts i) (record (at ts i) { reply = None }))
    by_test true rest = (h.0, rest)
    by_test false rest = (tt, rest)
