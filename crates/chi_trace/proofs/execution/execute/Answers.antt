-- one operation more
use Rattle.std.proofs.Common.{◌≡◌, ℕ, ◌<◌, true, [], ◌∷◌, ◌++◌, length, take, get_or, sym, ap, ap₂, ◌∙◌, arith}
use Rattle.std.specs.BTreeMap.{get}
use Rattle.std.specs.Option.{is_some, unwrap_or}
use Rattle.std.specs.Ordering.{nat_cmp}
use Rattle.std.proofs.Math.Bool.{or-false}
use Rattle.std.proofs.lemmas.Bool.{ltb-true}
use Rattle.std.proofs.lemmas.List.{take_all}
use Rattle.std.proofs.lemmas.List.Elements.{All-take}
use Rattle.chi_lanes.specs.After.{answer}
use Rattle.chi_lanes.specs.Memory.{Memory, granule_start, word_at}
use Rattle.chi_trace.specs.Explains.{at, is_place, memory_after, word_of}
use Rattle.chi_trace.specs.Granules.{granule_of, next}
use Rattle.chi_trace.proofs.Orders.{observed_at}
use Rattle.chi_trace.proofs.Steps.{word_of-own}
use Rattle.chi_trace.specs.Executions.{is_known, replies_in}
use Rattle.chi_trace.specs.Words.{memory_of}
use Rattle.chi_trace.proofs.Memory.{IsMemory-memory_of, word_of-memory_of}
use Rattle.chi_trace.proofs.Replayed.{IsMemory-memory_after, known_step, option_is, replay_step, replies_in_more}
use Rattle.chi_trace.proofs.Traced.{at_read}
use Rattle.chi_trace.proofs.execution.execute.Goals as goal

pub loop-place-init : goal.loop-place-init
unfolding memory_after replies_in
loop-place-init c = record {
  known = λ g. ap is_some (rw c.opening.ensures.words at (c.in_ok-words.ensures g)) ∙ sym (or-false _);
  words = λ g.
      ap (λ o. unwrap_or o 0) (rw c.opening.ensures.words at (c.in_ok-words.ensures g))
      ∙ sym (word_of-memory_of c.args.trace.now.opening g c.opening.ensures.each);
  replies = c.in_ok-replies.ensures.items;
}

pub apply_operation-after-requires : goal.apply_operation-after-requires
apply_operation-after-requires c =
    let place : ℕ = get_or c.args.order.now c.loop-place.place-index 0 in
    let ops = c.args.trace.now.operations in
    let here : is_place ops place ≡ true = c.requires c.loop-place.place-index 0 (omega arith) in
    let read : at ops place ≡ c.index-ops-place.result =
    at_read ops place c.index-ops-place.result (ltb-true place (length ops) here) (rw c.operations-ops.ensures.operations at c.index-ops-place.is) in
    let observed = observed_at ops place c.operations-ops.ensures.traced here in
    rw (← read) observed.within

pub loop-place-preserved : goal.loop-place-preserved
loop-place-preserved c =
    let i = c.loop-place.place-index in
    let order = c.args.order.now in
    let place : ℕ = get_or order i 0 in
    let t = c.args.trace.now in
    let ops = t.operations in
    let memory = memory_of t.opening in
    let inside : i < length order = omega arith in
    let here : is_place ops place ≡ true = c.requires i 0 inside in
    let read : at ops place ≡ c.index-ops-place.result =
    at_read ops place c.index-ops-place.result (ltb-true place (length ops) here) (rw c.operations-ops.ensures.operations at c.index-ops-place.is) in
    let k : ℕ = c.granule-granule.result in
    let granule : granule_of (at ops place) ≡ k = ap granule_of read ∙ sym c.granule-granule.ensures in
    let before : Memory = memory_after ops memory (take i order) in
    let is_before = IsMemory-memory_after ops memory (take i order) c.operations-ops.ensures.traced (IsMemory-memory_of t.opening) (All-take (λ i. is_place ops i ≡ true) i order c.requires) in
    let found : c.unwrap_or-before.result ≡ word_of before k =
    c.unwrap_or-before.ensures ∙ (ap (λ o. unwrap_or o 0) (c.copied.ensures ∙ c.get.ensures.value) ∙ c.loop-place.invariant.words k) in
    let word : c.apply_operation-after.result.0 ≡ next (at ops place) (word_of before k) =
    c.apply_operation-after.ensures.word ∙ (ap (λ op. next op c.unwrap_or-before.result) (sym read) ∙ ap (next (at ops place)) found) in
    let reply : c.apply_operation-after.result.1 ≡ answer (at ops place).access before =
    c.apply_operation-after.ensures.reply before is_before (found ∙ (word_of-own (at ops place) before k granule ∙ ap (λ op. word_at before (granule_start op.access.addr)) read))
    ∙ ap (λ op. answer op.access before) (sym read) in
    record {
      known = λ g. known_step t order i g k c.apply_operation-after.result.0 (get nat_cmp c.loop-place.words g) (get nat_cmp c.insert.new.self g) c.requires inside granule
          (c.loop-place.invariant.known g) (c.in_ok-insert.ensures.updates.0 g);
      words = λ g. replay_step ops memory order i g k c.apply_operation-after.result.0 (get nat_cmp c.loop-place.words g) (get nat_cmp c.insert.new.self g)
          c.operations-ops.ensures.traced (IsMemory-memory_of t.opening) c.requires inside granule word (c.loop-place.invariant.words g) (c.in_ok-insert.ensures.updates.0 g);
      replies = c.in_ok-push.ensures.items ∙ (ap₂ (λ rs r. rs ++ r ∷ []) c.loop-place.invariant.replies reply ∙ sym (replies_in_more ops memory order i inside));
    }

pub returns-clause-words : goal.returns-clause-words
returns-clause-words c g =
    let i = c.loop-place.place-index in
    let order = c.args.order.now in
    let t = c.args.trace.now in
    let all : take i order ≡ order = take_all i order (omega arith) in
    c.in_ok-words-2.ensures g
    ∙ option_is (get nat_cmp c.loop-place.words g) (is_known t order g) (word_of (memory_after t.operations (memory_of t.opening) order) g)
    (c.loop-place.invariant.known g ∙ ap (λ x. is_known t x g) all) (c.loop-place.invariant.words g ∙ ap (λ x. word_of (memory_after t.operations (memory_of t.opening) x) g) all)
