-- texts one after the other, with the same text between each two
use Rattle.std.specs.Prelude.{ℕ, zero, suc, List, [], ◌++◌, codes}

-- what stands between two texts of one line
abbrev pub comma : List ℕ
comma = codes ","

-- what stands between two texts that have a line each
abbrev pub comma_line : List ℕ
comma_line = codes ",\n"

-- what stands before the text with this number, counted from 0
abbrev pub before : List ℕ → ℕ → List ℕ
before between zero = []
before between (suc n) = between

-- the first n of the texts
unfoldable pub listed : List ℕ → (ℕ → List ℕ) → ℕ → List ℕ
listed between text zero = []
listed between text (suc n) = listed between text n ++ (before between n ++ text n)
