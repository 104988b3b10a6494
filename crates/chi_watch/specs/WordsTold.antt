-- words that events tell of granules: at the opening, later, and at the end
use Rattle.std.specs.Prelude.{ℕ, ◌+◌, ◌*◌, ◌%◌, ◌^◌, ◌==◌, nat_lt, Bool, true, false, not, ◌&&◌, if◌then◌else◌, List, [], ◌∷◌, ◌++◌, map, filter, filter_map, Option, Some, None, option_map}
use Rattle.std.specs.Int.{to_le_bytes, w64}
use Rattle.std.specs.Result.{result_ok}
use Rattle.chi_events.specs.declared.event.Event.{Event}
use Rattle.chi_events.specs.declared.event.EventKind.{EventKind}
use Rattle.chi_events.specs.declared.event.EventKind.TheVariants.{Word, Final, Unknown}
use Rattle.chi_events.specs.declared.event.WordTold.{WordTold}
use Rattle.chi_lanes.specs.declared.reply.Reply.TheVariants.{Comp}
use Rattle.chi_trace.specs.RequestFields.{access_of, as_operation}
use Rattle.chi_trace.specs.declared.operation.Operation.{Operation}
use Rattle.chi_trace.specs.declared.request_fields.RequestFields.{RequestFields}
use Rattle.chi_trace.specs.declared.words.GranuleWord.{GranuleWord}

-- something that is not told may have written to the granule
abbrev pub covers : ℕ → EventKind → Bool
covers g (Unknown addr len) = nat_lt addr (8 * g + 8) && nat_lt (8 * g) (addr + len)
covers g _ = false

-- A word that is told of a granule before the end, and when. It is the one at the opening where nothing that is not told may have
-- written to the granule before.
pub record WordAt : Type 0 where
  pub time : ℕ
  pub told : WordTold
  pub is_opening : Bool

abbrev pub word_at : ℕ → EventKind → List WordAt
word_at time (Word w) = record { time = time; told = w; is_opening = true } ∷ []
word_at time _ = []

-- the same after an event of this kind
abbrev pub word_after : EventKind → WordAt → WordAt
word_after kind w = record w { is_opening = w.is_opening && not (covers w.told.granule kind) }

-- the words that are told before the end
unfoldable pub words_told : List Event → List WordAt
words_told [] = []
words_told (e ∷ events) = word_at e.time e.kind ++ map (word_after e.kind) (words_told events)

abbrev pub granule_word : WordTold → GranuleWord
granule_word w = record { granule = w.granule; word = w.word }

-- those at the opening
abbrev pub openings : List Event → List GranuleWord
openings events = map (λ w. granule_word w.told) (filter (λ w. w.is_opening) (words_told events))

-- WriteNoSnpPtl of a granule's word
abbrev pub write_fields : WordTold → RequestFields
write_fields w = record {
  number = w.number;
  src = 0;
  txn = 0;
  opcode = 0x1c;
  size = 3;
  addr = 8 * w.granule;
  endian = false;
  be = if w.granule % 2 == 0 then 0xff else 0xff00;
  lanes = to_le_bytes w64 w.word ++ to_le_bytes w64 w.word;
}

-- A word that is told later stands for its write, taken and completed when it is told.
abbrev pub write_at : ℕ → WordTold → Option Operation
write_at time w =
    if nat_lt w.granule (2 ^ 49)
    then option_map (λ access. as_operation (write_fields w) access time time (Some Comp)) (result_ok (access_of None (write_fields w)))
    else None

abbrev pub write_of : WordAt → Option Operation
write_of w = if w.is_opening then None else write_at w.time w.told

-- the writes that stand for the words that are told later
abbrev pub writes_told : List Event → List Operation
writes_told events = filter_map write_of (words_told events)

-- the times at which the granule's word is told later
abbrev pub is_told_later : ℕ → WordAt → Bool
is_told_later g w = w.told.granule == g && not w.is_opening

abbrev pub times_told : List Event → ℕ → List ℕ
times_told events g = map (λ w. w.time) (filter (is_told_later g) (words_told events))

-- and a word that is told after a granule's last request
abbrev pub final_in : EventKind → Option GranuleWord
final_in (Final w) = Some (granule_word w)
final_in _ = None

abbrev pub final_words : List Event → List GranuleWord
final_words events = filter_map (λ e. final_in e.kind) events
