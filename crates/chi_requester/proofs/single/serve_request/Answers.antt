-- a request is refused, done, or answered by RetryAck
use Rattle.std.proofs.Common.{◌≡◌, [], ◌∷◌, Ok, Err, subst, sym}
use Rattle.chi_fields.specs.Extent.{Extent}
use Rattle.chi_fields.specs.Refusal.{decision}
use Rattle.chi_history.specs.declared.line.Line.TheVariants.{Completed, Refused}
use Rattle.chi_requester.proofs.RequestLemmas.{executed_refused, executed_done, executed_followed}
use Rattle.chi_requester.proofs.single.serve_request.Goals as goal

pub returns-in-Err-clause-executed : goal.returns-in-Err-clause-executed
returns-in-Err-clause-executed g c =
    let P : Extent → Type 0 = λ region. Err c.in-Err.refusal ≡ decision c.args.request.now region in
    (Refused c.args.request.now c.in-Err.refusal ∷ [], c.push_reserved.ensures.items, executed_refused _ _ _ _ _ _ _ c.requires.holds (sym (subst P c.region.ensures c.in-Err.ensures.decided)))

pub returns-in-Done-clause-executed : goal.returns-in-Done-clause-executed
returns-in-Done-clause-executed g c =
    let P : Extent → Type 0 = λ region. Ok c.in-Ok.access ≡ decision c.args.request.now region in (
      Completed c.args.request.now c.in-Done.reply ∷ [],
      c.push_reserved-in-Done.ensures.items,
      executed_done _ _ _ _ _ _ _ _ _ c.in-Done.lost c.requires.holds (sym (subst P c.region.ensures c.in-Ok.ensures.decided)) c.in-Done.ensures.served.0,
    )

pub returns-in-Retry-clause-executed : goal.returns-in-Retry-clause-executed
returns-in-Retry-clause-executed g c =
    let P : Extent → Type 0 = λ region. Ok c.in-Ok.access ≡ decision c.args.request.now region in
    let served = c.in-Retry.ensures.served in
    executed_followed _ _ _ _ _ _ _ _ _ _ c.in-Retry.lost c.in-Retry.credit _ _ _ c.requires.holds (sym (subst P c.region.ensures c.in-Ok.ensures.decided))
    served.0 served.1 served.2 served.3 c.serve.ensures.held c.push_reserved-in-Retry.ensures.items c.follow.ensures.followed
