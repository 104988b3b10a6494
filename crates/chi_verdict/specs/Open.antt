-- how many operations were open at one time
use Rattle.std.specs.Prelude.{ℕ, nat_le, max, Bool, ◌&&◌, List, [], ◌∷◌, length, map}
use Rattle.std.specs.List.{filter}
use Rattle.chi_trace.specs.declared.operation.Operation.{Operation}
use Rattle.chi_trace.specs.AtPlaces.{is_in}

-- it had started by a time, and had not ended before
abbrev pub is_open : ℕ → Operation → Bool
is_open time op = nat_le op.start time && nat_le time op.end

-- how many of these operations were open at a time
abbrev pub count_open : List Operation → ℕ → ℕ
count_open ops time = length (filter (is_open time) ops)

-- the greatest of some numbers, and 0 where there is none
unfoldable pub greatest : List ℕ → ℕ
greatest [] = 0
greatest (n ∷ numbers) = max n (greatest numbers)

-- the greatest number of these operations that were open when one of them started
abbrev pub most_at_once : List Operation → ℕ
most_at_once ops = greatest (map (λ op. count_open ops op.start) ops)

-- the same of a granule's operations
abbrev pub most_open : List Operation → ℕ → ℕ
most_open ops g = most_at_once (filter (is_in g) ops)
