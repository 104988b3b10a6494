-- outstanding requests of one granule
use Rattle.std.specs.Prelude.{◌≡◌, ℕ, ◌/◌, ◌≤◌, List, All}
use Rattle.chi_events.specs.declared.outstanding.Open.{Open}

-- the number of the granule of a request
abbrev pub granule_of_request : Open → ℕ
granule_of_request p = p.fields.addr / 8

-- no outstanding request of the granule was taken before this time
abbrev pub StartsBy : List Open → ℕ → ℕ → Type 0
StartsBy requests g time = All (λ p. granule_of_request p ≡ g → time ≤ p.start) requests

-- no request of the granule is outstanding
abbrev pub IsQuiet : List Open → ℕ → Type 0
IsQuiet requests g = All (λ p. granule_of_request p ≡ g → ⊥) requests
