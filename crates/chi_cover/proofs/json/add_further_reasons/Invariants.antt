-- the text so far
use Rattle.std.proofs.Common.{◌≡◌, ◌++◌, flat_map, take}
use Rattle.chi_cover.specs.Json.{further, reason_json}
use Rattle.chi_cover.specs.Refusals.{refused_in}
use Rattle.chi_cover.proofs.json.add_further_reasons.Given as goal

abbrev pub invariant-loop-reason : goal.invariant-loop-reason
invariant-loop-reason l = l.to.items ≡ l.initial.to.items ++ flat_map (further (reason_json (refused_in l.refusals))) (take l.reason-index l.reasons)
