-- histories and the memory at their end, as the rule of a store speaks of them
use Rattle.std.proofs.Common.{List, [], ◌∷◌, ◌++◌, refl}
use Rattle.chi_lanes.specs.After.{after}
use Rattle.chi_lanes.specs.Memory.{Memory, IsMemory}
use Rattle.chi_lanes.proofs.AfterLemmas.{IsMemory-after}
use Rattle.chi_history.specs.declared.entry.Entry.{Entry}
use Rattle.chi_history.specs.declared.opening.Opening.{Opening}
use Rattle.chi_history.specs.NumberSets.{Held, nobody, union}
use Rattle.chi_history.specs.History.{IsFreeOf, IsLegal, IsLegalFrom, end, end_from, opening_memory}
use Rattle.chi_history.proofs.WordLemmas.{IsMemory-opening_memory}

-- a legal history that goes on legally is legal
pub legal-append : (o : Opening) (m : Memory) (xs ys : List Entry) → IsLegalFrom o m xs → IsLegalFrom o (end_from m xs) ys → IsLegalFrom o m (xs ++ ys)
unfolding end_from IsLegalFrom
legal-append o m [] ys first second = second
legal-append o m (x ∷ xs) ys first second = (first.0, legal-append o (after x.access m) xs ys first.1 second)

-- the rest of a history that contains no entry of a set contains none
pub free-back : (held : Held) (xs ys : List Entry) → IsFreeOf held (xs ++ ys) → IsFreeOf held ys
unfolding IsFreeOf
free-back held [] ys whole = whole
free-back held (x ∷ xs) ys whole = free-back held xs ys whole.1

-- what contains no entry of two sets contains none of their union
pub free-union : (held other : Held) (xs : List Entry) → IsFreeOf held xs → IsFreeOf other xs → IsFreeOf (union held other) xs
unfolding IsFreeOf
free-union held other [] first second = tt
free-union held other (x ∷ xs) first second = (rw (first.0, second.0) refl, free-union held other xs first.1 second.1)

-- every history contains no entry of the empty set
pub free-nobody : (xs : List Entry) → IsFreeOf nobody xs
unfolding IsFreeOf
free-nobody [] = tt
free-nobody (x ∷ xs) = (refl, free-nobody xs)

-- a legal history leaves a memory a memory
IsMemory-end_from : (o : Opening) (m : Memory) (h : List Entry) → IsMemory m → IsLegalFrom o m h → IsMemory (end_from m h)
unfolding end_from IsLegalFrom
IsMemory-end_from o m [] is legal = is
IsMemory-end_from o m (e ∷ es) is legal =
    IsMemory-end_from o (after e.access m) es (IsMemory-after e.access m is legal.0.lawful) legal.1

-- the memory at the end of a legal history is one
pub IsMemory-end : (o : Opening) (h : List Entry) → IsLegal o h → IsMemory (end o h)
IsMemory-end o h legal = IsMemory-end_from o (opening_memory o) h (IsMemory-opening_memory o) legal
