-- one granule more is looked at
use Rattle.std.proofs.Common.{◌≡◌, Result, IfErr, refl}
use Rattle.chi_search.proofs.Growing.{looked_none, some_after}
use Rattle.chi_watch_text.proofs.ToldTexts.{all_some, none_told, told_some, told_then}
use Rattle.chi_watch_text.proofs.Told.{once_more, passed_on, still_first, still_more, reached_more, reached_same}
use Rattle.chi_watch_text.specs.Telling.{AreAllTold}
use Rattle.chi_watch_text.specs.Written.{found_text}
use Rattle.chi_watch_text.specs.declared.fault.LinesFault.{LinesFault}
use Rattle.chi_watch_text.specs.declared.fault.LinesFault.TheVariants as fault
use Rattle.chi_watch_text.proofs.quiet.judge_each.Goals as goal
use Rattle.chi_search.specs.Looks.{for_verdict}

pub loop-it-init : goal.loop-it-init
loop-it-init g c = record {
  told = none_told (found_text c.args.options.now.answer) c.args.found.now.items (g.W.Write.contents c.args.to.now);
  each = still_first c.args.watch.now c.args.quiet.now c.args.found.now.items;
  once = λ once. once;
  reached = reached_same c.args.watch.now (g.P.Progress.looked for_verdict) c.args.progress.now c.args.progress.now c.args.options.now.budget c.args.found.now.items c.args.found.now.items refl;
  looked = looked_none (g.P.Progress.looked for_verdict) c.args.progress.now;
}

pub loop-it-preserved : goal.loop-it-preserved
loop-it-preserved g c =
    let before = c.loop-it.invariant in
    let more = c.in_ok-judge_one.ensures in
    record {
      told = told_then (found_text c.args.options.now.answer) c.args.found.now.items c.loop-it.found.items c.judge_one.new.found.items (g.W.Write.contents c.args.to.now) (g.W.Write.contents c.loop-it.to) (g.W.Write.contents c.judge_one.new.to) before.told more.told;
      each = still_more c.args.watch.now c.args.quiet.now c.args.found.now.items c.loop-it.found.items c.judge_one.new.found.items c.loop-it.it-index (record { granule = 0; line = 0 }) c.loop-it-test.true
          more.noted before.each;
      once = λ once. once_more c.args.watch.now _ c.loop-it.found.items c.judge_one.new.found.items more.noted (before.once once);
      reached = reached_more c.args.watch.now (g.P.Progress.looked for_verdict) c.args.progress.now c.loop-it.progress c.judge_one.new.progress c.args.options.now.budget c.args.found.now.items c.loop-it.found.items
          c.judge_one.new.found.items before.looked more.looked before.reached more.reached;
      looked = some_after (g.P.Progress.looked for_verdict) c.args.progress.now c.loop-it.progress c.judge_one.new.progress before.looked more.looked;
    }

pub returns-in_err-judge_one-clause-each : goal.returns-in_err-judge_one-clause-each
returns-in_err-judge_one-clause-each g c =
    still_more c.args.watch.now c.args.quiet.now c.args.found.now.items c.loop-it.found.items c.judge_one.new.found.items c.loop-it.it-index (record { granule = 0; line = 0 }) c.loop-it-test.true
    c.in_err-judge_one.ensures.noted c.loop-it.invariant.each

pub returns-in_err-judge_one-clause-kept : goal.returns-in_err-judge_one-clause-kept
returns-in_err-judge_one-clause-kept g c =
    passed_on c.from_residual.result c.in_err-judge_one.field-0.0 (λ (r : Result (Unit {0}) LinesFault). IfErr r (λ f. (f ≡ fault.Write → ⊥) → AreAllTold (found_text c.args.options.now.answer) c.args.found.now.items c.judge_one.new.found.items (g.W.Write.contents c.args.to.now) (g.W.Write.contents c.judge_one.new.to))) c.from_residual.ensures.1
    (λ not_write. told_then (found_text c.args.options.now.answer) c.args.found.now.items c.loop-it.found.items c.judge_one.new.found.items (g.W.Write.contents c.args.to.now) (g.W.Write.contents c.loop-it.to) (g.W.Write.contents c.judge_one.new.to)
    c.loop-it.invariant.told (c.in_err-judge_one.ensures.kept not_write))

pub returns-in_err-judge_one-clause-begun : goal.returns-in_err-judge_one-clause-begun
returns-in_err-judge_one-clause-begun g c =
    told_some (found_text c.args.options.now.answer) c.args.found.now.items c.loop-it.found.items c.judge_one.new.found.items (g.W.Write.contents c.args.to.now) (g.W.Write.contents c.loop-it.to) (g.W.Write.contents c.judge_one.new.to)
    c.loop-it.invariant.told c.in_err-judge_one.ensures.begun

pub returns-clause-begun : goal.returns-clause-begun
returns-clause-begun g c =
    all_some (found_text c.args.options.now.answer) c.args.found.now.items c.loop-it.found.items (g.W.Write.contents c.args.to.now) (g.W.Write.contents c.loop-it.to) c.loop-it.invariant.told
