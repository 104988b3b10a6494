-- what a script's work over a fresh home did
use Rattle.std.proofs.Common.{◌≡◌, ℕ, ◌<◌, List, [], ◌++◌, length, slice_index, sym, ap, subst, ◌∙◌, append-nil, Result, Ok, Err, IfErr, OnOk}
use Rattle.chi_fields.specs.declared.request.Request.{Request}
use Rattle.chi_fields.specs.Extent.{Extent}
use Rattle.chi_lanes.specs.Memory.{Memory, word}
use Rattle.chi_history.specs.declared.entry.Entry.{Entry}
use Rattle.chi_history.specs.declared.line.Line.{Line}
use Rattle.chi_history.specs.declared.opening.Opening.{Opening}
use Rattle.chi_history.specs.NumberSets.{Held}
use Rattle.chi_history.specs.History.{end, end_from, opening_memory}
use Rattle.chi_history.specs.Lines.{entries, serial, serial_end}
use Rattle.chi_requester.specs.declared.fault.WorkFault.{WorkFault}
use Rattle.chi_requester.specs.Serial.{IsSerialRun}
use Rattle.chi_requester.proofs.SerialLemmas.{serial_end-entries}
use Rattle.chi_script.specs.Script.{ScriptValue}
use Rattle.chi_engine.specs.Run.{IsCut}
use Rattle.chi_engine.specs.Store.{IsFresh, opening_of}
use Rattle.chi_script.specs.RunText.{granule_words}
use Rattle.chi_script.proofs.GranuleWords.{words_are}

-- the memory at the opening
abbrev pub start : ScriptValue → Memory
start s = opening_memory (opening_of s)

region_is : (o : Opening) (s : ScriptValue) (held : Held) (seen : List Entry) → IsFresh o s held seen → o.region ≡ s.region
region_is o s held seen fresh = ap (λ (z : Opening). z.region) fresh.opening

-- it is the memory at the end of nothing
start_of : (o : Opening) (s : ScriptValue) (held : Held) (seen : List Entry) → IsFresh o s held seen → end o seen ≡ start s
unfolding end_from
start_of o s held seen fresh = ap (end o) fresh.first.1 ∙ ap (λ (z : Opening). opening_memory z) fresh.opening

-- the lines of the requests executed
lines_of : (o : Opening) (s : ScriptValue) (qs : List Request) (held : Held) (seen seen' : List Entry) (lines lines' : List Line) (r : Result (Unit {0}) WorkFault)
    → IsFresh o s held seen → lines ≡ [] → (run : IsSerialRun r o qs seen seen' lines lines') → lines' ≡ serial s.region run.executed (start s)
lines_of o s qs held seen seen' lines lines' r fresh empty run =
    run.told ∙ (ap (λ (xs : List Line). xs ++ serial o.region run.executed (end o seen)) empty
    ∙ (ap (λ (region : Extent). serial region run.executed (end o seen)) (region_is o s held seen fresh)
    ∙ ap (serial s.region run.executed) (start_of o s held seen fresh)))

-- after Ok every request was executed
all_of : (executed left all : List Request) → executed ++ left ≡ all → left ≡ [] → executed ≡ all
all_of executed left all parts none = sym (append-nil executed) ∙ (ap (λ (qs : List Request). executed ++ qs) (sym none) ∙ parts)

told_all : (o : Opening) (s : ScriptValue) (qs : List Request) (held : Held) (seen seen' : List Entry) (lines lines' : List Line) (done : Unit {0})
    → IsFresh o s held seen → lines ≡ [] → qs ≡ s.requests → IsSerialRun (Ok done) o qs seen seen' lines lines' → lines' ≡ serial s.region s.requests (start s)
told_all o s qs held seen seen' lines lines' done fresh empty are run =
    lines_of o s qs held seen seen' lines lines' (Ok done) fresh empty run
    ∙ ap (λ (rs : List Request). serial s.region rs (start s)) (all_of run.executed run.left s.requests (run.parts ∙ are) run.are_left)

-- the memory that a script leaves
end_all : (o : Opening) (s : ScriptValue) (qs : List Request) (held : Held) (seen seen' : List Entry) (lines lines' : List Line) (done : Unit {0})
    → IsFresh o s held seen → qs ≡ s.requests → IsSerialRun (Ok done) o qs seen seen' lines lines' → end o seen' ≡ serial_end s.region s.requests (start s)
end_all o s qs held seen seen' lines lines' done fresh are run =
    ap (end o) (run.grown ∙ ap (λ (h : List Entry). h ++ added) fresh.first.1)
    ∙ (serial_end-entries' ∙ (ap (λ (region : Extent). serial_end region run.executed (end o seen)) (region_is o s held seen fresh)
    ∙ (ap (serial_end s.region run.executed) begun ∙ ap (λ (rs : List Request). serial_end s.region rs (start s)) (all_of run.executed run.left s.requests (run.parts ∙ are) run.are_left))))
  where
    begun : end o seen ≡ start s
    begun = start_of o s held seen fresh

    added : List Entry
    added = entries (serial o.region run.executed (end o seen))

    first : opening_memory o ≡ end o seen
    first = ap (λ (z : Opening). opening_memory z) fresh.opening ∙ sym begun

    serial_end-entries' : end_from (opening_memory o) added ≡ serial_end o.region run.executed (end o seen)
    serial_end-entries' = ap (λ (m : Memory). end_from m added) first ∙ serial_end-entries o.region run.executed (end o seen)

-- what the work did, however it ended: the lines of all requests, and the memory after them
pub told_after : (r : Result (Unit {0}) WorkFault) (o : Opening) (s : ScriptValue) (qs : List Request) (held : Held) (seen seen' : List Entry) (lines lines' : List Line)
    → IsFresh o s held seen → lines ≡ [] → qs ≡ s.requests → IsSerialRun r o qs seen seen' lines lines' → OnOk r (lines' ≡ serial s.region s.requests (start s))
told_after (Ok done) o s qs held seen seen' lines lines' fresh empty are run = told_all o s qs held seen seen' lines lines' done fresh empty are run
told_after (Err fault) o s qs held seen seen' lines lines' fresh empty are run = tt

pub left_after : (r : Result (Unit {0}) WorkFault) (o : Opening) (s : ScriptValue) (qs : List Request) (held : Held) (seen seen' : List Entry) (lines lines' : List Line)
    → IsFresh o s held seen → qs ≡ s.requests → IsSerialRun r o qs seen seen' lines lines' → OnOk r (end o seen' ≡ serial_end s.region s.requests (start s))
left_after (Ok done) o s qs held seen seen' lines lines' fresh are run = end_all o s qs held seen seen' lines lines' done fresh are run
left_after (Err fault) o s qs held seen seen' lines lines' fresh are run = tt

-- after Memory some were not executed
pub cut_after : (r : Result (Unit {0}) WorkFault) (o : Opening) (s : ScriptValue) (qs : List Request) (held : Held) (seen seen' : List Entry) (lines lines' : List Line)
    → IsFresh o s held seen → lines ≡ [] → qs ≡ s.requests → IsSerialRun r o qs seen seen' lines lines' → IfErr r (λ _. IsCut s lines')
cut_after (Ok done) o s qs held seen seen' lines lines' fresh empty are run = tt
cut_after (Err fault) o s qs held seen seen' lines lines' fresh empty are run = record {
  executed = run.executed;
  left = run.left;
  parts = run.parts ∙ are;
  some_left = run.are_left;
  told = lines_of o s qs held seen seen' lines lines' (Err fault) fresh empty run;
}

-- the words of the memory that a script leaves
pub shown_after : (o : Opening) (s : ScriptValue) (held : Held) (seen seen' seen'' : List Entry) (words : List ℕ) → IsFresh o s held seen
    → end o seen' ≡ serial_end s.region s.requests (start s) → seen'' ≡ seen' → length words ≡ s.region.granules
    → ((g : ℕ) → g < o.region.granules → slice_index words g ≡ word (end o seen'') o.region g)
    → words ≡ granule_words (serial_end s.region s.requests (start s)) s.region.base s.region.granules
shown_after o s held seen seen' seen'' words fresh left same count each =
    words_are (serial_end s.region s.requests (start s)) s.region words count (λ g inside.
    let P : Extent → Type 0 = λ region. g < region.granules in
    each g (subst P (sym (region_is o s held seen fresh)) inside)
    ∙ (ap (λ (h : List Entry). word (end o h) o.region g) same
    ∙ (ap (λ (region : Extent). word (end o seen') region g) (region_is o s held seen fresh)
    ∙ ap (λ (m : Memory). word m s.region g) left)))
