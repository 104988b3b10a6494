-- one request more, a stop before it, or a request of another
use Rattle.std.proofs.Common.{rules, ◌∙◌}
use Rattle.chi_requester.proofs.RunLemmas.{eqb_other, so_far_next, so_far_none, so_far_skip, work_stopped}
use Rattle.chi_requester.proofs.requester_work.work.Goals as goal
use Rattle.chi_requester.proofs.requester_work.work.Goals.{then-request-src+in_ok-work_request, else-request-src}

pub loop-request-init : goal.loop-request-init
loop-request-init g c = record {
  own = c.requires.own;
  held = search rules;
  so_far = so_far_none _ _ _ _ _ _ _;
}

pub returns-in_err-work_request-clause-executed : goal.returns-in_err-work_request-clause-executed
returns-in_err-work_request-clause-executed g c =
    let same = c.in_err-work_request.ensures.executed in
    work_stopped _ _ _ _ _ _ _ c.loop-request.request-index _ _ _ _ _ _ _ c.loop-request-test.true c.if-request-src.true c.from_residual.ensures.0 c.loop-request.invariant.so_far same.0 same.1

pub loop-request-preserved : goal.loop-request-preserved
loop-request-preserved g c = elim c.if-request-src.branch [
  | then-request-src+in_ok-work_request w ↦
      let executed = w.in_ok-work_request.ensures.executed in
      rw (w.seat-is, w.lines-is) (record {
        own = w.work_request.ensures.own;
        held = w.work_request.ensures.held ∙ c.loop-request.invariant.held;
        so_far = so_far_next _ _ _ _ _ _ _ _ _ _ _ _ _ _ _ _ c.loop-request-test.true w.if-request-src.true c.loop-request.invariant.held c.loop-request.invariant.so_far executed.1 executed.2;
      })
  | else-request-src w ↦
      rw (w.seat-is, w.lines-is) (record {
        own = c.loop-request.invariant.own;
        held = c.loop-request.invariant.held;
        so_far = so_far_skip _ _ _ _ _ _ _ _ _ _ _ _ c.loop-request-test.true (eqb_other _ _ w.if-request-src.false) c.loop-request.invariant.so_far;
      })
]
