-- file after file was counted, or one was not
use Rattle.chi_cover.specs.Plan.{goal_in}
use Rattle.chi_check.proofs.CoverLemmas.{file_refused, next_file, no_file}
use Rattle.chi_check.proofs.inputs.files_counted.Goals as goal

pub loop-place-init : goal.loop-place-init
loop-place-init g c = no_file (g.S.Sources.holds c.args.sources.now) (goal_in c.args.plan.now) c.args.options.now.lines c.in-Ok.counted (record { covered = c.in-Ok.ensures.covered; refused = c.in-Ok.ensures.refused; added = c.in-Ok.ensures.added })

pub loop-place-preserved : goal.loop-place-preserved
loop-place-preserved g c =
    next_file (g.S.Sources.holds c.args.sources.now) (goal_in c.args.plan.now) c.args.options.now.lines c.args.options.now.files.items c.loop-place.place _ c.loop-place.counted c.add_file.new.counted
    (rw c.deref-path-items.ensures.value at c.loop-place-test.true) c.loop-place.invariant (rw c.deref-path-items.ensures.value at c.in-Ok-add_file.ensures.added)

pub returns-in-Err-clause-fault : goal.returns-in-Err-clause-fault
returns-in-Err-clause-fault g c =
    file_refused (g.S.Sources.holds c.args.sources.now) (goal_in c.args.plan.now) c.args.options.now.lines c.args.options.now.files.items c.loop-place.place _ c.in-Err.fault
    (rw c.deref-path-items.ensures.value at c.loop-place-test.true) (rw c.deref-path-items.ensures.value at c.in-Err.ensures.fault)
