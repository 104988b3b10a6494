-- an operation that can be moved before all others comes first
use Rattle.std.proofs.Common.{◌≡◌, ◌<◌, ◌≤◌, ◌^◌, Option, get_or, length, sym, ap, subst, ◌∙◌, arith, true, None, Some, is_some, refl, rules}
use Rattle.chi_lanes.specs.declared.reply.Reply.{Reply}
use Rattle.std.proofs.lemmas.List.{get_or_read}
use Rattle.chi_trace.specs.declared.operation.Operation.{Operation}
use Rattle.chi_trace.specs.Explains.{at, is_answered, nothing}
use Rattle.chi_search.specs.Moves.{CanCome}
use Rattle.chi_search.specs.Positions.{position_of}
use Rattle.chi_search.proofs.MovedFirst.{by_moved}
use Rattle.chi_search.proofs.commuting.commuting_next.Goals as goal

-- a reply that was seen
has_reply : (o : Operation) → is_some o.reply ≡ true → is_answered o ≡ true
has_reply o some = by_reply o.reply some
  where
    by_reply : (r : Option Reply) → is_some r ≡ true → is_answered (record o { reply = r }) ≡ true
    by_reply None some = some
    by_reply (Some reply) some = refl

pub returns-in-None-clause-first : goal.returns-in-None-clause-first
returns-in-None-clause-first c final_word =
    let ops = c.args.ops.now in
    let p = position_of c.args.state.now in
    let place = c.loop-place.place in
    let first : get_or ops p.first c.index-ops-state.result ≡ at ops p.first =
    sym c.index-ops-state.is ∙ get_or_read ops p.first c.index-ops-state.result (omega arith) c.index-ops-state.is nothing in
    let op : c.index-ops-place.result ≡ at ops place = get_or_read ops place c.index-ops-place.result (omega arith) c.index-ops-place.is nothing in
    let within : place < length ops = omega arith in
    let starts : (at ops place).start ≤ (at ops p.first).end = omega (arith, c.loop-place.invariant.starts within, ap (λ (o : Operation). o.end) first) in
    let comes : CanCome ops p place = (sym c.is_left.ensures ∙ c.if-is_left.true, starts) in
    let answered : is_answered (at ops place) ≡ true =
    subst (λ (o : Operation). is_answered o ≡ true) op (has_reply c.index-ops-place.result (sym c.is_some.ensures ∙ c.if-is_some.true)) in
    let below : p.word < 2 ^ 64 = search rules in
    by_moved ops final_word p place c.requires.sorted below comes answered c.in-None.ensures.none
