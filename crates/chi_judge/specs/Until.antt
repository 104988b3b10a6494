-- what had happened before a time
use Rattle.std.specs.Prelude.{ℕ, zero, suc, List, [], Option, None, Some}
use Rattle.chi_trace.specs.Cuts.{cut}
use Rattle.chi_trace.specs.declared.operation.Operation.{Operation}

-- the operations that had started before a time, with the replies that had come; before time 0 none
abbrev pub cut_before : ℕ → List Operation → List Operation
cut_before zero ops = []
cut_before (suc time) ops = cut time ops

-- the same where there is such a time, and else all
abbrev pub until : Option ℕ → List Operation → List Operation
until None ops = ops
until (Some time) ops = cut_before time ops
