-- what a script's race over a fresh home did
use Rattle.std.proofs.Common.{◌≡◌, ℕ, zero, suc, ◌<◌, true, List, [], ◌∷◌, ◌++◌, All, map, get_or, length, slice_index, Option, Result, Ok, Err, IsErrAnd, MatchResult, OnOk, refl, sym, ap, subst, ◌∙◌, append-nil}
use Rattle.std.proofs.lemmas.Bool.{or_left, or_right}
use Rattle.std.proofs.lemmas.List.Elements.{All-head, All-tail}
use Rattle.chi_fields.specs.declared.request.Request.{Request}
use Rattle.chi_lanes.specs.Memory.{word}
use Rattle.chi_history.specs.declared.entry.Entry.{Entry}
use Rattle.chi_history.specs.declared.line.Line.{Line}
use Rattle.chi_history.specs.declared.opening.Opening.{Opening}
use Rattle.chi_history.specs.NumberSets.{Held, only, union}
use Rattle.chi_history.specs.History.{IsLegal, end}
use Rattle.chi_requester.specs.declared.fault.WorkFault.{WorkFault}
use Rattle.chi_requester.specs.declared.policy.Policy.{Policy}
use Rattle.chi_requester.specs.declared.race_of_any.Racer.{Racer}
use Rattle.chi_requester.specs.Race.{IsRace, IsRaceRun, lines_of_all}
use Rattle.chi_requester.specs.Team.{lines_in}
use Rattle.chi_requester.specs.Work.{own_requests}
use Rattle.chi_script.specs.Script.{ScriptValue}
use Rattle.chi_script.specs.WriterBytes.{Puts}
use Rattle.chi_script.specs.declared.device.WriteFault.{WriteFault}
use Rattle.chi_engine.specs.declared.fault.EngineFault.{EngineFault}
use Rattle.chi_engine.specs.declared.fault.EngineFault.TheVariants.{Write}
use Rattle.chi_engine.specs.declared.options.Options.{Options}
use Rattle.chi_engine.specs.RaceTranscript.{IsRaced, RacesOver, race_text}
use Rattle.chi_engine.specs.Store.{IsFresh, opening_of}
use Rattle.chi_script.specs.RunText.{granule_words}
use Rattle.chi_script.proofs.GranuleWords.{words_are}

-- the words of the memory at the end of the history
pub shown_raced : (o : Opening) (s : ScriptValue) (seen' : List Entry) (words : List ℕ) → o ≡ opening_of s → length words ≡ s.region.granules
    → ((g : ℕ) → g < o.region.granules → slice_index words g ≡ word (end o seen') o.region g)
    → words ≡ granule_words (end (opening_of s) seen') s.region.base s.region.granules
shown_raced o s seen' words opening count each =
    words_are (end (opening_of s) seen') s.region words count (λ g inside.
    let P : Opening → Type 0 = λ z. g < z.region.granules in
    each g (subst P (sym opening) inside) ∙ ap (λ (z : Opening). word (end z seen') z.region g) opening)

-- where the race is over and its lines were none before, every request was executed and reported
pub raced_whole : (o : Opening) (policy : Policy) (limit : ℕ) (racers : Held) (all : List Request) (s : ScriptValue) (held : Held) (start seen' : List Entry) (lines lines' : ℕ → List Line) (u : Unit {0})
    → IsFresh o s held start → lines ≡ (λ r. []) → IsRaceRun (Ok u) o policy limit racers all start seen' lines lines'
    → IsRace (opening_of s) policy limit racers [] seen' (own_requests all) lines'
raced_whole o policy limit racers all s held start seen' lines lines' u fresh none begun = record {
  legal = let P : List Entry → Type 0 = λ h. IsLegal (opening_of s) h in subst P (sym run.grown) run.race.legal;
  raced = run.race.raced;
  last = run.race.last;
  parts = run.grown ∙ run.race.parts;
  of_racers = run.race.of_racers;
  of_zero = run.race.of_zero;
  racer = λ r is. let in_race = or_left (racers r) (only 0 r) is in rw (run.grown, ← done_is r in_race, told_is r in_race) (run.race.racer r is);
  zero_mine = rw (run.grown, told_is 0 zero_in) run.race.zero_mine;
  zero_told = rw (← done_is 0 zero_in, told_is 0 zero_in) run.race.zero_told;
  zero_unretried = rw (told_is 0 zero_in) run.race.zero_unretried;
}
  where
    run : IsRaceRun (Ok u) (opening_of s) policy limit racers all [] seen' (λ r. []) lines'
    run =
        let P : Opening → Type 0 = λ z. IsRaceRun (Ok u) z policy limit racers all start seen' lines lines' in
        let Q : List Entry → Type 0 = λ h. IsRaceRun (Ok u) (opening_of s) policy limit racers all h seen' lines lines' in
        let R : (ℕ → List Line) → Type 0 = λ f. IsRaceRun (Ok u) (opening_of s) policy limit racers all [] seen' f lines' in
        subst R none (subst Q fresh.first.1 (subst P (fresh.opening) begun))

    zero_in : union racers (only 0) 0 ≡ true
    zero_in = or_right (racers 0) (only 0 0) refl

    done_is : (r : ℕ) → union racers (only 0) r ≡ true → (run.share r).done ≡ own_requests all r
    done_is r is = sym (append-nil (run.share r).done) ∙ (ap (λ rest. (run.share r).done ++ rest) (sym (run.are_left r is)) ∙ (run.shares r is).parts)

    told_is : (r : ℕ) → union racers (only 0) r ≡ true → lines' r ≡ (run.share r).appended
    told_is r is = (run.shares r is).kept

-- the same of a race that may have stopped, by the values that the caller has of its limit, requests and lines
pub raced_by : (r : Result (Unit {0}) WorkFault) (o : Opening) (policy : Policy) (limit limit' : ℕ) (racers racers' : Held) (all : List Request) (s : ScriptValue) (held : Held)
    (start seen' : List Entry) (lines lines' lines'' : ℕ → List Line)
    → IsFresh o s held start → limit ≡ limit' → racers ≡ racers' → all ≡ s.requests → lines ≡ (λ r. []) → lines'' ≡ lines'
    → IsRaceRun r o policy limit racers all start seen' lines lines' → OnOk r (IsRace (opening_of s) policy limit' racers' [] seen' (own_requests s.requests) lines'')
raced_by (Ok u) o policy limit limit' racers racers' all s held start seen' lines lines' lines'' fresh bound who are none same begun =
    rw (← bound, ← who, ← are, same) (raced_whole o policy limit racers all s held start seen' lines lines' u fresh none begun)
raced_by (Err fault) o policy limit limit' racers racers' all s held start seen' lines lines' lines'' fresh bound who are none same begun = tt

-- racers with no line yet
none_in : {S G A : Type 0} (xs : List (Racer S G A)) → All (λ racer. racer.lines.items ≡ []) xs → (r : ℕ) → get_or ([] ∷ map lines_in xs) r [] ≡ []
none_in xs each zero = refl
none_in [] each (suc r) = refl
none_in (x ∷ xs) each (suc zero) = All-head (λ (racer : Racer _ _ _). racer.lines.items ≡ []) x xs each
none_in (x ∷ xs) each (suc (suc r)) = none_in xs (All-tail (λ (racer : Racer _ _ _). racer.lines.items ≡ []) x xs each) (suc r)

pub none_of_all : {S G A : Type 0} (before : List Line) (racers made : List (Racer S G A)) → before ≡ [] → racers ≡ made → All (λ racer. racer.lines.items ≡ []) made → lines_of_all before racers ≡ (λ r. [])
none_of_all before racers made empty same none = rw (empty, same) (λ i r. none_in made none r i)

-- a race over a fresh home, by the values that the caller has of its limit, requests and lines
pub race_fresh : {r : Result (Unit {0}) WorkFault} {o : Opening} {policy : Policy} {limit limit' : ℕ} {racers racers' : Held} {all : List Request} {s : ScriptValue} {held : Held}
    {start seen' : List Entry} {lines lines' : ℕ → List Line}
    → IsFresh o s held start → limit ≡ limit' → racers ≡ racers' → all ≡ s.requests → lines ≡ (λ r. [])
    → IsRaceRun r o policy limit racers all start seen' lines lines' → IsRaceRun r (opening_of s) policy limit' racers' s.requests [] seen' (λ r. []) lines'
race_fresh fresh bound who are none begun = rw (fresh.opening, fresh.first.1, bound, who, are, none) at begun

-- what is written of a race over a fresh home that is done
pub race_written : (options : Options) (s : ScriptValue) (old new : Option (List ℕ)) (since : List Entry) (lines : ℕ → List Line) (written : Result (Unit {0}) WriteFault)
    (result : Result (Unit {0}) EngineFault) → IsRaced options s since lines → Puts old new written (race_text options.workers s since lines)
    → MatchResult written (λ done. result ≡ Ok done) (λ fault. IsErrAnd result (λ x. x ≡ Write fault)) → RacesOver options s old new result
race_written options s old new since lines (Ok done) (Ok _) raced puts cases = (since, lines, raced, puts)
race_written options s old new since lines (Ok done) (Err fault) raced puts cases = cc
race_written options s old new since lines (Err fault) (Ok done) raced puts cases = absurd cases
race_written options s old new since lines (Err fault) (Err x) raced puts cases =
    let P : EngineFault → Type 0 = λ f. RacesOver options s old new (Err f) in subst P (sym cases) (since, lines, raced, puts)
