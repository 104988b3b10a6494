-- the next request
use Rattle.std.proofs.Common.{rules, arith}
use Rattle.std.proofs.lemmas.Grind.{common_steps}
use Rattle.chi_stimulus.proofs.Reading.{more_writable}
use Rattle.chi_stimulus.proofs.text.requests_value.Goals as goal

pub loop-request-preserved : goal.loop-request-preserved
loop-request-preserved c = record {
  values = grind (arith, common_steps);
  writable = more_writable c.args.requests.now c.loop-request.request-index _ (search rules) c.loop-request.invariant.writable c.in_ok-request_value.ensures.writable;
}
