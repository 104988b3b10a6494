-- those so far
use Rattle.std.proofs.Common.{◌≡◌, take}
use Rattle.chi_cover.specs.Refusals.{reasons_met, refused_in}
use Rattle.chi_cover.proofs.refusal_rows.reasons_met.Given as goal

abbrev pub invariant-loop-reason : goal.invariant-loop-reason
invariant-loop-reason l = l.count ≡ reasons_met (refused_in l.refusals) (take l.reason-index l.reasons)
