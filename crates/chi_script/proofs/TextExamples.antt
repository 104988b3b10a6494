-- the text of worked lines, computed
use Rattle.std.proofs.Common.{◌≡◌, [], ◌∷◌, ◌++◌, ◌^◌, ◌-◌, codes, refl, false}
use Rattle.std.specs.Prelude.{replicate}
use Rattle.std.specs.Fmt.{digits}
use Rattle.hex.proofs.OnLiterals.{hex_on_literals}
use Rattle.chi_fields.specs.declared.request.Request.{Request}
use Rattle.chi_fields.specs.declared.refusal.Refusal.TheVariants.{Misaligned}
use Rattle.chi_lanes.specs.declared.reply.Reply.TheVariants.{Comp, CompData}
use Rattle.chi_history.specs.declared.line.Line.TheVariants.{Completed, Refused, Retried}
use Rattle.chi_script.specs.Transcript.{request_text, line_text, granule_text, text, granules_text}

-- an AtomicLoad ADD of 1 to the eight bytes at 0x1000
abbrev pub fetch_add : Request
fetch_add = record {
  src = 0;
  txn = 1;
  opcode = 48;
  size = 3;
  addr = 4096;
  endian = false;
  be = 255;
  lanes = 1 ∷ replicate 15 0;
}

-- the transcript of one fetch and add on zeros
pub text-fetch_add : text (Completed fetch_add (CompData (replicate 16 0)) ∷ []) ++ granules_text 4096 (1 ∷ replicate 7 0)
    ≡ codes "0 1 30 AtomicLoad.ADD 3 0000000000001000 data 00000000000000000000000000000000\nm 0000000000001000 0100000000000000\nm 0000000000001008 0000000000000000\nm 0000000000001010 0000000000000000\nm 0000000000001018 0000000000000000\nm 0000000000001020 0000000000000000\nm 0000000000001028 0000000000000000\nm 0000000000001030 0000000000000000\nm 0000000000001038 0000000000000000\n"
unfolding request_text line_text granule_text hex_on_literals digits
text-fetch_add = refl

-- a retry, and then the completion by its credit
pub text-retried : text (Retried fetch_add ∷ Completed fetch_add (CompData (2 ∷ replicate 15 0)) ∷ [])
    ≡ codes "0 1 30 AtomicLoad.ADD 3 0000000000001000 retry\n0 1 30 AtomicLoad.ADD 3 0000000000001000 data 02000000000000000000000000000000\n"
unfolding request_text line_text hex_on_literals digits
text-retried = refl

-- a refused swap
pub text-refused : text (Refused (record fetch_add { txn = 5; opcode = 56; addr = 4092 }) Misaligned ∷ [])
    ≡ codes "0 5 38 AtomicSwap 3 0000000000000ffc refused Misaligned\n"
unfolding request_text line_text hex_on_literals digits
text-refused = refl

-- a completion without data, and numbers of three digits
pub text-comp : text (Completed (record fetch_add { src = 107; txn = 255; opcode = 40 }) Comp ∷ [])
    ≡ codes "107 255 28 AtomicStore.ADD 3 0000000000001000 comp\n"
unfolding request_text line_text hex_on_literals digits
text-comp = refl

-- a word is printed in address order
pub granules_text-order : granules_text (2 ^ 52 - 8) (0x8877665544332211 ∷ []) ≡ codes "m 000ffffffffffff8 1122334455667788\n"
unfolding granule_text hex_on_literals
granules_text-order = refl
