-- a trace of which an operation is answered otherwise is one
use Rattle.std.proofs.Common.{◌≡◌, ℕ, ◌==◌, ◌≤◌, Bool, true, false, cond, List, [], ◌∷◌, All, map, Some, refl}
use Rattle.std.proofs.lemmas.List.Elements.{All-map, All-weaker}
use Rattle.chi_lanes.specs.declared.reply.Reply.{Reply}
use Rattle.chi_trace.specs.Explains.{IsOperation, IsTrace}
use Rattle.chi_trace.specs.declared.operation.Operation.{Operation}
use Rattle.chi_verdict.specs.ToTheEnd.{all_replied, replied}

module _ (number : ℕ) (reply : Reply) where
  same_start : (op : Operation) → (replied number reply op).start ≡ op.start
  same_start op = by_test (op.number == number)
    where
      by_test : (b : Bool) → (cond b (record op { reply = Some reply }) op).start ≡ op.start
      by_test true = refl
      by_test false = refl

  still_observed : (op : Operation) → IsOperation op → IsOperation (replied number reply op)
  still_observed op is = by_test (op.number == number)
    where
      by_test : (b : Bool) → IsOperation (cond b (record op { reply = Some reply }) op)
      by_test true = record { lawful = is.lawful; within = is.within; lasting = is.lasting }
      by_test false = is

  pub still_traced : (ops : List Operation) → IsTrace ops → IsTrace (all_replied number reply ops)
  unfolding IsTrace
  still_traced [] is = tt
  still_traced (op ∷ ops) is = (still_observed op is.0, no_earlier, still_traced ops is.2)
    where
      no_earlier : All (λ later. (replied number reply op).start ≤ later.start) (map (replied number reply) ops)
      no_earlier = All-map (λ later. (replied number reply op).start ≤ later.start) (replied number reply) ops
          (All-weaker (λ later. op.start ≤ later.start) (λ later. (replied number reply op).start ≤ (replied number reply later).start)
          (λ later le. rw (same_start op, same_start later) le) ops is.1)
