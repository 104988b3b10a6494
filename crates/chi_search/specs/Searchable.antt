-- which operations can be searched
use Rattle.std.specs.Prelude.{ℕ, ◌+◌, ◌^◌, ◌<◌, ◌≤◌, List, length}
use Rattle.chi_trace.specs.declared.operation.Operation.{Operation}
use Rattle.chi_trace.specs.Explains.{at}
use Rattle.chi_trace.specs.Segments.{AreLasting}

-- the operations stand in the order of their ends
abbrev pub AreByEnd : List Operation → Type 0
AreByEnd ops = (i j : ℕ) → i ≤ j → j < length ops → (at ops i).end ≤ (at ops j).end

-- and none ends before it starts
abbrev pub AreSorted : List Operation → Type 0
AreSorted ops = AreByEnd ops × AreLasting ops

-- the operands lie within 2^52 bytes
abbrev pub AreWithin : List Operation → Type 0
AreWithin ops = (i : ℕ) → i < length ops → (at ops i).access.addr + (at ops i).access.len ≤ 2 ^ 52
