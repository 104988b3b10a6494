-- texts in columns
use Rattle.std.specs.Prelude.{ℕ, ◌-◌, ◌^◌, ◌==◌, if◌then◌else◌, List, ◌++◌, codes, decimal, length, replicate}

-- a number in a column of this width, at its right
abbrev pub number_text : ℕ → ℕ → List ℕ
number_text n width = replicate (width - length (decimal n)) 32 ++ decimal n

-- a text in a column of this width, at its left
abbrev pub left_text : List ℕ → ℕ → List ℕ
left_text text width = text ++ replicate (width - length text) 32

-- until when an operation lasted: to its end, or on where it had none
abbrev pub until_text : ℕ → List ℕ
until_text end = if end == 2 ^ 64 - 1 then codes "on" else codes "to " ++ decimal end
