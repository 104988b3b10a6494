-- the lines of how many bins each input added
use Rattle.std.specs.Prelude.{ℕ, List, [], ◌∷◌, ◌++◌, codes, decimal}

-- the line of how many bins the input of a path added
unfoldable pub added_line : List ℕ → ℕ → List ℕ
added_line path number = codes "added by " ++ (path ++ (codes ": " ++ (decimal number ++ codes "\n")))

-- the lines of these numbers and paths, each number with the path at its place
unfoldable pub each_added : List ℕ → List (List ℕ) → List ℕ
each_added [] paths = []
each_added (number ∷ added) [] = []
each_added (number ∷ added) (path ∷ paths) = added_line path number ++ each_added added paths

-- the lines where there are two paths or more, and nothing where there are fewer
unfoldable pub added_lines : List ℕ → List (List ℕ) → List ℕ
added_lines added [] = []
added_lines added (path ∷ []) = []
added_lines added (path ∷ next ∷ paths) = each_added added (path ∷ next ∷ paths)
