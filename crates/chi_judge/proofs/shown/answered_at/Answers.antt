-- the place that is taken for each operation is of no later request
use Rattle.std.proofs.Common.{arith}
use Rattle.chi_trace.specs.Explains.{at}
use Rattle.chi_judge.proofs.Suspected.{first_more}
use Rattle.chi_judge.proofs.shown.answered_at.Goals as goal

pub loop-place-preserved : goal.loop-place-preserved
loop-place-preserved c =
    let ops = c.args.ops.now in
    let place = c.loop-place.place in
    record {
      within = c.earlier_of-first.ensures.within;
      answered = c.earlier_of-first.ensures.answered;
      request = first_more ops c.args.time (at ops c.loop-place.first).number (at ops c.earlier_of-first.result).number place (omega arith)
          c.loop-place.invariant.request c.earlier_of-first.ensures.no_later c.earlier_of-first.ensures.earlier;
    }
