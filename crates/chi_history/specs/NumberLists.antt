-- sets of requester numbers as lists
use Rattle.std.specs.Prelude.{◌≡◌, ℕ, zero, suc, ◌+◌, ◌==◌, ◌||◌, List, [], ◌∷◌, ◌++◌, if◌then◌else◌}
use Rattle.chi_history.specs.NumberSets.{Held, nobody}

-- the numbers of a list, as a set
unfoldable pub has : List ℕ → Held
has [] = nobody
has (x ∷ xs) = λ r. r == x || has xs r

-- the numbers below this one that are in the set, in rising order
unfoldable pub numbers_in : Held → ℕ → List ℕ
numbers_in held zero = []
numbers_in held (suc n) = if held n then numbers_in held n ++ n ∷ [] else numbers_in held n

-- how many numbers below this one are in the set
unfoldable pub size_below : Held → ℕ → ℕ
size_below held zero = 0
size_below held (suc n) = if held n then size_below held n + 1 else size_below held n

-- how many of the numbers 0 to 7 are in the set
abbrev pub size_of : Held → ℕ
size_of held = size_below held 8

-- the list has numbers 0 to 7 in rising order, each once
abbrev pub IsInOrder : List ℕ → Type 0
IsInOrder xs = xs ≡ numbers_in (has xs) 8
