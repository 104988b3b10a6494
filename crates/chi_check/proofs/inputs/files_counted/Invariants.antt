-- the first files were counted
use Rattle.std.proofs.Common.{map, take}
use Rattle.chi_cover.specs.Plan.{goal_in}
use Rattle.chi_check.specs.Cover.{AreOfFiles}
use Rattle.chi_check.proofs.inputs.files_counted.Given as goal

abbrev pub invariant-loop-place : goal.invariant-loop-place
invariant-loop-place g l = AreOfFiles (g.S.Sources.holds l.sources) (goal_in l.plan) l.options.lines (map (λ path. path.now) (take l.place l.options.files.items)) l.counted
