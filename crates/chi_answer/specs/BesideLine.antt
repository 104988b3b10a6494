-- the line of the other granules of a line of 64 bytes that no order explains
use Rattle.std.specs.Prelude.{ℕ, ◌*◌, ◌%◌, ◌^◌, List, [], ◌∷◌, ◌++◌, codes, flat_map}
use Rattle.chi_text.specs.Part.{address_text}

-- a granule, by its address
unfoldable pub address_word : ℕ → List ℕ
address_word g = codes " " ++ address_text (g * 8 % 2 ^ 64)

-- the line of all of them
unfoldable pub all_line : List ℕ → List ℕ
all_line beside = codes "  also not explained in this line of 64 bytes:" ++ (flat_map address_word beside ++ codes "\n")

-- the same, where there are any
abbrev pub beside_line : List ℕ → List ℕ
beside_line [] = []
beside_line (g ∷ beside) = all_line (g ∷ beside)
