-- laws of histories, each named by a function whose contract it is
use Rattle.std.specs.Prelude.{◌≡◌, ◌≢◌, ℕ, ◌+◌, ◌<◌, ◌≤◌, true, List, [], ◌∷◌, ◌++◌, ◌⊎◌}
use Rattle.chi_fields.specs.Extent.{IsRegion, granule_of}
use Rattle.chi_lanes.specs.Memory.{word}
use Rattle.chi_history.specs.declared.entry.Entry.{Entry}
use Rattle.chi_history.specs.declared.opening.Opening.{Opening}
use Rattle.chi_history.specs.NumberSets.{Held, nobody}
use Rattle.chi_history.specs.History.{IsFreeOf, IsLegal, end, end_from, hits, of}

-- hits over two stretches are those over the first and those over the second, which stands after it
abbrev pub HitsAdd : Type 0
HitsAdd = (o : Opening) (h x y : List Entry) (g : ℕ) (held : Held) → hits o h (x ++ y) g held ≡ hits o h x g held + hits o (h ++ x) y g held

-- an appended entry changes the word of its own granule alone
abbrev pub ChangesOwnGranuleAlone : Type 0
ChangesOwnGranuleAlone = (o : Opening) (h : List Entry) (e : Entry) (g : ℕ) → IsRegion o.region → IsLegal o (h ++ e ∷ [])
    → g ≢ granule_of e.access.addr o.region → word (end o (h ++ e ∷ [])) o.region g ≡ word (end o h) o.region g

-- where a granule's words differ, an entry between them hits it
abbrev pub DifferingWordsAreHit : Type 0
DifferingWordsAreHit = (o : Opening) (h x : List Entry) (g : ℕ) → word (end o (h ++ x)) o.region g ≢ word (end o h) o.region g → 1 ≤ hits o h x g nobody

-- the memory after two stretches is that of the second from the memory after the first
abbrev pub EndsAdd : Type 0
EndsAdd = (o : Opening) (h x : List Entry) → end o (h ++ x) ≡ end_from (end o h) x

-- a prefix of a legal history is legal
abbrev pub PrefixIsLegal : Type 0
PrefixIsLegal = (o : Opening) (h x : List Entry) → IsLegal o (h ++ x) → IsLegal o h

-- the entries of a requester in two stretches
abbrev pub EntriesOfAdd : Type 0
EntriesOfAdd = (x y : List Entry) (r : ℕ) → of (x ++ y) r ≡ of x r ++ of y r

-- a stretch that contains no entry of a set has none of a number in it
abbrev pub FreeHasNone : Type 0
FreeHasNone = (held : Held) (x : List Entry) (r : ℕ) → held r ≡ true → IsFreeOf held x → of x r ≡ []

-- two stretches that contain no entry of a set make one that contains none
abbrev pub FreeAdds : Type 0
FreeAdds = (held : Held) (x y : List Entry) → IsFreeOf held x → IsFreeOf held y → IsFreeOf held (x ++ y)

-- a stretch of a legal history that contains no entry of any requester is empty
abbrev pub FreeOfAllIsEmpty : Type 0
FreeOfAllIsEmpty = (o : Opening) (h x : List Entry) (held : Held) → ((r : ℕ) → r < o.requesters → held r ≡ true)
    → IsLegal o (h ++ x) → IsFreeOf held x → x ≡ []

-- of two prefixes of one history, one is a prefix of the other
abbrev pub OneIsPrefix : Type 0
OneIsPrefix = (x r y s : List Entry) → x ++ r ≡ y ++ s
    → ((t : List Entry) × (x ++ t ≡ y) × (t ++ s ≡ r)) ⊎ ((t : List Entry) × (y ++ t ≡ x) × (t ++ r ≡ s))
