-- lemmas on the elements of an array
use Rattle.std.proofs.Common.{◌≡◌, ℕ, List, length, ◌≤◌, nat_lt, if◌then◌else◌, Err, Option, ap, ◌∙◌}
use Rattle.std.proofs.lemmas.Bool.{le-ltb}
use Rattle.serde_json.specs.Events.{items_len}
use Rattle.serde_json.specs.View.{items_view}
use Rattle.serde_json.specs.declared.value.Value.{Value}
use Rattle.serde_json.proofs.Views.{items_len-items_view}
use Rattle.chi_fields.specs.Extent.{Extent}
use Rattle.chi_reading.specs.declared.fault.TraceFault.TheVariants.{TooManyRequests}
use Rattle.chi_reading.specs.Requests.{all_completed, completed_of}

-- whether there are more elements than a number
pub counted : (most : ℕ) (vs : List Value) → nat_lt most (items_len (items_view vs)) ≡ nat_lt most (length vs)
counted most vs = ap (nat_lt most) (items_len-items_view vs)

-- of no more than 1,048,576 elements all are read
pub within : (region : Option Extent) (vs : List Value) → length vs ≤ 1048576
    → all_completed region (items_view vs) ≡ completed_of 0 region (items_view vs)
unfolding all_completed
within region vs few = ap (λ b. if b then Err TooManyRequests else completed_of 0 region (items_view vs)) (counted 1048576 vs ∙ le-ltb 1048576 (length vs) few)
