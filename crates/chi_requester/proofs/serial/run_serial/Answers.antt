-- one request more, or a stop before it
use Rattle.std.proofs.Common.{rules, ◌∙◌}
use Rattle.chi_requester.proofs.SerialLemmas.{progress_none, progress_next, serial_stopped}
use Rattle.chi_requester.proofs.serial.run_serial.Goals as goal

pub loop-request-init : goal.loop-request-init
loop-request-init g c = record {
  own = c.requires.own;
  held = search rules;
  progress = progress_none _ _ _;
}

pub returns-in_err-work_request-clause-serial : goal.returns-in_err-work_request-clause-serial
returns-in_err-work_request-clause-serial g c =
    let same = c.in_err-work_request.ensures.executed in
    serial_stopped _ _ _ c.loop-request.request-index _ _ _ _ _ _ c.loop-request-test.true c.from_residual.ensures.0 c.loop-request.invariant.progress same.0 same.1

pub loop-request-preserved : goal.loop-request-preserved
loop-request-preserved g c =
    let executed = c.in_ok-work_request.ensures.executed in
    record {
      own = c.work_request.ensures.own;
      held = c.work_request.ensures.held ∙ c.loop-request.invariant.held;
      progress = progress_next _ _ _ _ _ _ _ _ _ _ _ _ _ _ c.loop-request-test.true (c.loop-request.invariant.held ∙ c.requires.all)
          (g.met.H.Home.seen_is_legal _ _ c.work_request.ensures.own) c.loop-request.invariant.progress executed.1 executed.2;
    }
