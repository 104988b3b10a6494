-- the text of a transcript
use Rattle.std.specs.Prelude.{ℕ, ◌+◌, List, [], ◌∷◌, ◌++◌, flat_map, codes, decimal}
use Rattle.hex.specs.Hex.{encode_lower}
use Rattle.chi_text.specs.Part.{address_text, word_text}
use Rattle.chi_fields.specs.Opcode.{opcode_name}
use Rattle.chi_fields.specs.Refusal.{name_of}
use Rattle.chi_fields.specs.declared.request.Request.{Request}
use Rattle.chi_lanes.specs.declared.reply.Reply.{Reply}
use Rattle.chi_lanes.specs.declared.reply.Reply.TheVariants.{Comp, CompData}
use Rattle.chi_history.specs.declared.line.Line.{Line}
use Rattle.chi_history.specs.declared.line.Line.TheVariants.{Completed, Refused, Retried}

-- the request that a line reports
abbrev pub request_of_line : Line → Request
request_of_line (Completed q reply) = q
request_of_line (Refused q refusal) = q
request_of_line (Retried q) = q

-- a request's fields, each with the space after it
unfoldable pub request_text : Request → List ℕ
request_text q =
    decimal q.src ++ codes " " ++ decimal q.txn ++ codes " " ++ encode_lower (q.opcode ∷ []) ++ codes " "
    ++ opcode_name q.opcode ++ codes " " ++ decimal q.size ++ codes " " ++ address_text q.addr ++ codes " "

abbrev pub reply_text : Reply → List ℕ
reply_text Comp = codes "comp"
reply_text (CompData lanes) = codes "data " ++ encode_lower lanes

-- what became of the request
abbrev pub outcome_text : Line → List ℕ
outcome_text (Completed q reply) = reply_text reply
outcome_text (Refused q refusal) = codes "refused " ++ name_of refusal
outcome_text (Retried q) = codes "retry"

-- the line of a request
unfoldable pub line_text : Line → List ℕ
line_text line = request_text (request_of_line line) ++ (outcome_text line ++ codes "\n")

-- the lines of requests
abbrev pub text : List Line → List ℕ
text lines = flat_map line_text lines

-- the memory line of a granule at an address
unfoldable pub granule_text : ℕ → ℕ → List ℕ
granule_text addr word = codes "m " ++ address_text addr ++ codes " " ++ word_text word ++ codes "\n"

-- the memory lines of granules from an address on, by their words
abbrev pub granules_text : ℕ → List ℕ → List ℕ
granules_text addr [] = []
granules_text addr (word ∷ words) = granule_text addr word ++ granules_text (addr + 8) words
