-- the 16 lanes of a data packet
use Rattle.std.specs.Prelude.{ℕ, ◌+◌, ◌-◌, ◌*◌, ◌%◌, ◌==◌, List, ◌++◌, length, replicate, slice_range, if◌then◌else◌}

-- The sent data of an operand of len bytes whose first lane is l. Of an AtomicCompare it is the compare value, which
-- stands in the half of the window that the address names.
abbrev pub sent : List ℕ → ℕ → ℕ → List ℕ
sent lanes l len = slice_range lanes l (l + len)

-- the first lane of the other half of an AtomicCompare's window, whose two halves have len lanes each
abbrev pub other_half : ℕ → ℕ → ℕ
other_half l len = if l % (2 * len) == 0 then l + len else l - len

-- the swap value of an AtomicCompare, which stands in the window's other half
abbrev pub swap_value : List ℕ → ℕ → ℕ → List ℕ
swap_value lanes l len = sent lanes (other_half l len) len

-- returned data: the bytes from lane l on, and 0 in every other lane
abbrev pub in_lanes : ℕ → List ℕ → List ℕ
in_lanes l bs = replicate l 0 ++ (bs ++ replicate (16 - l - length bs) 0)
