-- why no home answers as one did, as a line
use Rattle.std.specs.Prelude.{ℕ, List, [], ◌++◌, codes, Option, None, Some}
use Rattle.chi_trace.specs.declared.reply.ReplyFault.{ReplyFault}
use Rattle.chi_trace.specs.declared.reply.ReplyFault.TheVariants.{WithData, WithoutData, OutsideOperand}

-- why an access has no such reply
abbrev pub reason_text : ReplyFault → List ℕ
reason_text WithData = codes "its kind has a reply without data"
reason_text WithoutData = codes "its kind has a reply with data"
reason_text OutsideOperand = codes "a byte outside its operand is not 0"

-- the line that says so, where there is a reason
unfoldable pub impossible_text : Option ReplyFault → List ℕ
impossible_text None = []
impossible_text (Some fault) = codes "    no home answers so: " ++ (reason_text fault ++ codes "\n")
