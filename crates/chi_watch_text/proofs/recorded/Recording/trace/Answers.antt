-- what is judged of the operations stands in the order of their starts
use Rattle.std.proofs.Common.{◌++◌, List, flat_map, subst, sym, ap, ◌∙◌}
use Rattle.std.specs.Prelude.{IsPermutation}
use Rattle.chi_events.specs.Outstanding.{OutstandingValue, Tells}
use Rattle.chi_trace.specs.declared.operation.Operation.{Operation}
use Rattle.chi_watch.specs.Judged.{judged_part}
use Rattle.chi_watch_text.proofs.Recordings.{judged_trace, told_trace, with_writes}
use Rattle.chi_watch_text.proofs.recorded.Recording.trace.Goals as goal

pub unreachable-requires : goal.unreachable-requires
unreachable-requires c =
    let events = c.requires.told.0 in
    let has = c.requires.told.1 in
    let all = with_writes events c.args.self c.in_ok-ops.ops.items c.in_ok-ops-2.ops.items has
    (c.in_ok-ops.ensures events (subst (λ (o : OutstandingValue). Tells events c.args.self.ended.items o) (sym c.outstanding.ensures) has.watches.tells))
    (subst (λ (l : List Operation). IsPermutation (c.in_ok-ops.ops.items ++ l) c.in_ok-ops-2.ops.items) c.deref.ensures.value c.in_ok-ops-2.ensures.same) c.in_ok-ops-2.ensures.in_order in
    c.new.ensures.none c.in-None.is
    (judged_trace events c.in_ok-ops-2.ops.items c.in_ok-judged.judged.items all.trace
    (c.in_ok-judged.ensures events (c.args.self.ended.items, has.watches) ∙ ap (flat_map (judged_part events)) c.deref-2.ensures.value))

pub returns : goal.returns
returns c events has =
    let all = with_writes events c.args.self c.in_ok-ops.ops.items c.in_ok-ops-2.ops.items has
    (c.in_ok-ops.ensures events (subst (λ (o : OutstandingValue). Tells events c.args.self.ended.items o) (sym c.outstanding.ensures) has.watches.tells))
    (subst (λ (l : List Operation). IsPermutation (c.in_ok-ops.ops.items ++ l) c.in_ok-ops-2.ops.items) c.deref.ensures.value c.in_ok-ops-2.ensures.same) c.in_ok-ops-2.ensures.in_order in
    told_trace events c.args.self c.in_ok-ops-2.ops.items c.in_ok-judged.judged.items c.in_ok-opening.opening c.in_ok-final_words.final_words c.in_ok-final_words-2.final_words c.in-Some.trace has all
    (c.in_ok-judged.ensures events (c.args.self.ended.items, has.watches) ∙ ap (flat_map (judged_part events)) c.deref-2.ensures.value)
    c.in_ok-opening.ensures c.in_ok-final_words.ensures c.in_ok-final_words-2.ensures c.in-Some.ensures.some _ c.of_addresses.ensures
