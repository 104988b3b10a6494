-- what explains a granule to its end, where one of its operations is answered otherwise
use Rattle.std.specs.Prelude.{ℕ, ◌==◌, Bool, true, false, if◌then◌else◌, List, map, Option, None, Some}
use Rattle.std.specs.List.{Contains}
use Rattle.chi_lanes.specs.declared.reply.Reply.{Reply}
use Rattle.chi_trace.specs.Traces.{IsExplainedIn, TraceValue}
use Rattle.chi_trace.specs.declared.operation.Operation.{Operation}
use Rattle.chi_trace.specs.declared.words.GranuleWord.{GranuleWord}

-- the operation, answered by this reply where it has this number
abbrev pub replied : ℕ → Reply → Operation → Operation
replied number reply op = if op.number == number then record op { reply = Some reply } else op

-- the operations so
abbrev pub all_replied : ℕ → Reply → List Operation → List Operation
all_replied number reply ops = map (replied number reply) ops

-- some order of the granule's operations explains them so, and leaves the word that was observed at the end
abbrev pub ExplainsToTheEnd : TraceValue → List GranuleWord → ℕ → ℕ → Reply → Type 0
ExplainsToTheEnd t final_words granule number reply =
    (order : List ℕ) × IsExplainedIn (record t { operations = all_replied number reply t.operations }) final_words granule order

-- it does with one of these replies
abbrev pub SomeExplains : TraceValue → List GranuleWord → ℕ → ℕ → List Reply → Type 0
SomeExplains t final_words granule number replies = (reply : Reply) × Contains replies reply × ExplainsToTheEnd t final_words granule number reply

-- A or its contrary, where it is said which
abbrev pub IsSaid : Option Bool → Type 0 → Type 0
IsSaid None A = Unit {0}
IsSaid (Some true) A = A
IsSaid (Some false) A = A → ⊥
