-- what was found of the elements so far, and then what those to come are
use Rattle.std.proofs.Common.{◌≡◌}
use Rattle.serde_json.specs.View.{items_view}
use Rattle.chi_reading.specs.Requests.{completed_of}
use Rattle.chi_reading.proofs.Joined.{rest_of}
use Rattle.chi_reading.proofs.requests.completed.Given as goal

abbrev pub invariant-loop-place : goal.invariant-loop-place
invariant-loop-place l = rest_of l.place l.region l.list l.found ≡ completed_of 0 l.region (items_view l.list)
