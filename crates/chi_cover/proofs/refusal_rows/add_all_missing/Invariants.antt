-- the text so far
use Rattle.std.proofs.Common.{◌≡◌, ◌++◌, flat_map, take}
use Rattle.chi_cover.specs.Refusals.{missing_refusal, refused_in}
use Rattle.chi_cover.proofs.refusal_rows.add_all_missing.Given as goal

abbrev pub invariant-loop-reason : goal.invariant-loop-reason
invariant-loop-reason l = l.to.items ≡ l.initial.to.items ++ flat_map (missing_refusal (refused_in l.refusals)) (take l.reason-index l.reason-items)
