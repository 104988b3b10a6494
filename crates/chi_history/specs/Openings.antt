-- what is true of every opening, and of a home that was just opened
use Rattle.std.specs.Prelude.{◌≡◌, ℕ, ◌^◌, ◌<◌, ◌≤◌, List, [], length, slice_index}
use Rattle.chi_fields.specs.Extent.{Extent, IsRegion}
use Rattle.chi_history.specs.declared.entry.Entry.{Entry}
use Rattle.chi_history.specs.declared.opening.Opening.{Opening}
use Rattle.chi_history.specs.NumberSets.{Held, below}

-- the number of requesters is 1 to 8
abbrev pub IsRequesterCount : ℕ → Type 0
IsRequesterCount n = (1 ≤ n) × (n ≤ 8)

-- an opening on a region for so many requesters, with these words of the memory
abbrev pub opened : Extent → ℕ → List ℕ → Opening
opened region requesters image = record { region = region; requesters = requesters; image = image }

-- its region is one, its image has a word of eight bytes for each granule, and its requesters are 1 to 8
pub record IsOpening (o : Opening) : Type 0 where
  pub region : IsRegion o.region
  pub requesters : IsRequesterCount o.requesters
  pub imaged : length o.image ≡ o.region.granules
  pub words : (g : ℕ) → slice_index o.image g < 2 ^ 64

-- a seat of a home that was just opened: it holds every number, and has seen nothing
abbrev pub IsFirst : Opening → Held → List Entry → Type 0
IsFirst o held seen = (held ≡ below o.requesters) × (seen ≡ [])
