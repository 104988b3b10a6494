-- a history of operations, and the memory that it leaves
use Rattle.std.specs.Prelude.{◌≡◌, ℕ, ◌+◌, ◌-◌, ◌*◌, ◌/◌, ◌%◌, ◌^◌, ◌<◌, ◌==◌, Bool, false, not, ◌&&◌, if◌then◌else◌, List, [], ◌∷◌, slice_index, IsTrue}
use Rattle.chi_fields.specs.Extent.{Extent, lies_in}
use Rattle.chi_fields.specs.Access.{IsLawful, Access}
use Rattle.chi_lanes.specs.After.{after, answer, same_bytes}
use Rattle.chi_lanes.specs.Memory.{Memory, bytes_from}
use Rattle.chi_history.specs.declared.entry.Entry.{Entry}
use Rattle.chi_history.specs.declared.opening.Opening.{Opening}
use Rattle.chi_history.specs.NumberSets.{Held}

-- byte k of the words of an image: each word has eight, and its byte i is its bits 8 * i to 8 * i + 7
abbrev pub image_byte : List ℕ → ℕ → ℕ
image_byte image k = slice_index image (k / 8) / 256 ^ (k % 8) % 256

-- the memory at the opening: in the region the bytes of the image's words, which are those of the granules, and
-- elsewhere 0
abbrev pub opening_memory : Opening → Memory
opening_memory o = λ x. if lies_in x 1 o.region then image_byte o.image (x - o.region.base) else 0

-- the memory after the entries, one after another
unfoldable pub end_from : Memory → List Entry → Memory
end_from m [] = m
end_from m (e ∷ es) = end_from (after e.access m) es

-- the memory at the end of a history
abbrev pub end : Opening → List Entry → Memory
end o h = end_from (opening_memory o) h

-- the entry is of a requester of the home, its access is lawful and fits the region, and its reply is the answer of
-- the memory before it
pub record IsLegalEntry (o : Opening) (m : Memory) (e : Entry) : Type 0 where
  pub requester : e.src < o.requesters
  pub inside : IsTrue (lies_in e.access.addr e.access.len o.region)
  pub answered : e.reply ≡ answer e.access m
  pub lawful : IsLawful e.access

-- each entry is legal at the memory that those before it leave
unfoldable pub IsLegalFrom : Opening → Memory → List Entry → Type 0
IsLegalFrom o m [] = Unit {0}
IsLegalFrom o m (e ∷ es) = IsLegalEntry o m e × IsLegalFrom o (after e.access m) es

abbrev pub IsLegal : Opening → List Entry → Type 0
IsLegal o h = IsLegalFrom o (opening_memory o) h

-- the entries of one requester, in order
unfoldable pub of : List Entry → ℕ → List Entry
of [] r = []
of (e ∷ es) r = if e.src == r then e ∷ of es r else of es r

-- no entry is of a number in the set
unfoldable pub IsFreeOf : Held → List Entry → Type 0
IsFreeOf held [] = Unit {0}
IsFreeOf held (e ∷ es) = (held e.src ≡ false) × IsFreeOf held es

-- an access changes some byte of a region's granule
abbrev pub changes : Access → Memory → Extent → ℕ → Bool
changes access m region g = not (same_bytes (bytes_from m (region.base + 8 * g) 8) (bytes_from (after access m) (region.base + 8 * g) 8))

abbrev pub one_if : Bool → ℕ
one_if b = if b then 1 else 0

-- how many of the entries change a byte of the granule and are not of a number in the set
unfoldable pub hits_from : Opening → Memory → List Entry → ℕ → Held → ℕ
hits_from o m [] g held = 0
hits_from o m (e ∷ es) g held = one_if (changes e.access m o.region g && not (held e.src)) + hits_from o (after e.access m) es g held

-- the same of the entries x that stand after the history h
abbrev pub hits : Opening → List Entry → List Entry → ℕ → Held → ℕ
hits o h x g held = hits_from o (end o h) x g held
