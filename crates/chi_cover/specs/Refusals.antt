-- how many requests were refused, for each reason
use Rattle.std.specs.Prelude.{◌≡◌, ℕ, ◌+◌, ◌==◌, ◌<◌, nat_lt, if◌then◌else◌, List, [], ◌++◌, codes, count_by, decimal, flat_map, length, min, slice_index}
use Rattle.chi_fields.specs.Refusal.{name_of}
use Rattle.chi_fields.specs.Refusals.{all_refusals}
use Rattle.chi_fields.specs.declared.refusal.Refusal.{Refusal}
use Rattle.chi_fields.specs.declared.refusal.Refusal.TheVariants.{UnknownOpcode, ReservedSize, SizeOutOfProfile, Misaligned, OutOfRegion, BadByteEnable}
use Rattle.chi_cover.specs.Counts.{most}

-- The number of each reason, from 0 on, in this order.
abbrev pub refusal_number : Refusal → ℕ
refusal_number UnknownOpcode = 0
refusal_number ReservedSize = 1
refusal_number SizeOutOfProfile = 2
refusal_number Misaligned = 3
refusal_number OutOfRegion = 4
refusal_number BadByteEnable = 5

-- how many of these requests were refused for a reason
unfoldable pub refused_times : List Refusal → Refusal → ℕ
refused_times refusals reason = count_by (λ r. refusal_number r == refusal_number reason) refusals

-- The counts of the reasons, in the order of their numbers: the count of a reason.
unfoldable pub refused_in : List ℕ → Refusal → ℕ
refused_in counts reason = slice_index counts (refusal_number reason)

-- each reason's new count is its old one and how many of these requests were refused for it
abbrev pub AreRefused : List Refusal → List ℕ → List ℕ → Type 0
AreRefused refusals old new = (reason : Refusal) → refused_in new reason ≡ min (refused_in old reason + refused_times refusals reason) most

-- There are as many counts as before, and each is what it was, and one more for each of these reasons that has its number.
pub record AreRefusalsAdded (refusals : List Refusal) (old new : List ℕ) : Type 0 where
  pub long : length new ≡ length old
  pub each : (n : ℕ) → n < length old → slice_index new n ≡ min (slice_index old n + count_by (λ r. refusal_number r == n) refusals) most

-- how many of these reasons there were
abbrev pub reasons_met : (Refusal → ℕ) → List Refusal → ℕ
reasons_met counts reasons = count_by (λ reason. nat_lt 0 (counts reason)) reasons

-- how many reasons there were, of how many
unfoldable pub refusals_head : (Refusal → ℕ) → List ℕ
refusals_head counts =
    codes "refusals: " ++ (decimal (reasons_met counts all_refusals) ++ (codes " of " ++ (decimal (length all_refusals) ++ codes "\n")))

-- how many requests were refused for a reason
unfoldable pub refusal_row : (Refusal → ℕ) → Refusal → List ℕ
refusal_row counts reason = name_of reason ++ (codes ": " ++ (decimal (counts reason) ++ codes "\n"))

-- a reason for which none was
unfoldable pub missing_refusal : (Refusal → ℕ) → Refusal → List ℕ
missing_refusal counts reason = if counts reason == 0 then codes "missing: " ++ (name_of reason ++ codes "\n") else []

-- how many reasons there were, the count of each, and those that there were not
unfoldable pub refusals_text : (Refusal → ℕ) → List ℕ
refusals_text counts = refusals_head counts ++ (flat_map (refusal_row counts) all_refusals ++ flat_map (missing_refusal counts) all_refusals)
