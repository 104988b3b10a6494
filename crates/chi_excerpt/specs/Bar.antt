-- the bar of an operation on a line of time, which has 40 columns
use Rattle.std.specs.Prelude.{ℕ, ◌+◌, ◌-◌, ◌*◌, ◌/◌, nat_le, min, max, if◌then◌else◌, List, ◌++◌, codes, replicate}

-- the column of a time on a line from one time to another; a time that is not on the line stands at its nearer end
abbrev pub column : ℕ → ℕ → ℕ → ℕ
column from to time = if nat_le to from then 0 else (min (max time from) to - from) * 39 / (to - from)

-- the columns from the start of an operation to its end, with this sign in each, between two bars
unfoldable pub bar_text : ℕ → ℕ → ℕ → ℕ → ℕ → List ℕ
bar_text sign from to start end =
    codes "|" ++ (replicate (column from to start) 32 ++ (replicate (column from to end + 1 - column from to start) sign
    ++ (replicate (39 - column from to end) 32 ++ codes "|")))
