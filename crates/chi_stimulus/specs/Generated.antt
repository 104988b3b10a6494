-- what a script by chance is
use Rattle.std.specs.Prelude.{◌≡◌, ℕ, ◌<◌, false, min, max, List, All, length, replicate, slice_index_or}
use Rattle.chi_fields.specs.Extent.{Extent}
use Rattle.chi_fields.specs.declared.request.Request.{Request}
use Rattle.chi_script.specs.Script.{ScriptValue}
use Rattle.chi_stimulus.specs.Plan.{refusal_at, refusal_of}
use Rattle.chi_stimulus.specs.declared.stimulus.Stimulus.{Stimulus}

-- how many requests a script has
abbrev pub count_of : Stimulus → ℕ
count_of s = min s.requests 4096

-- how many requesters send
abbrev pub requesters_of : Stimulus → ℕ
requesters_of s = max 1 (min s.requesters 8)

-- the request at each place is refused where it is to be, for this reason, and else accepted
abbrev pub AreDecided : Extent → ℕ → List Request → Type 0
AreDecided region percent requests =
    (k : ℕ) (q : Request) → k < length requests → refusal_of region (slice_index_or requests k q) ≡ refusal_at percent k

-- The script is of the region. It has so many requests, of which a home refuses those that are to be refused, for these
-- reasons, and accepts the others; each is of one of the requesters. Without an image its memory opens with zeros.
pub record IsGenerated (s : Stimulus) (script : ScriptValue) : Type 0 where
  pub region : script.region ≡ s.region
  pub count : length script.requests ≡ count_of s
  pub decided : AreDecided s.region s.refused script.requests
  pub sources : All (λ q. q.src < requesters_of s) script.requests
  pub opening : s.image ≡ false → script.image ≡ replicate s.region.granules 0
