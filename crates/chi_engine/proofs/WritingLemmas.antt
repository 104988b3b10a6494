-- one writing call after another
use Rattle.std.proofs.Common.{◌≡◌, ℕ, suc, flat_map, map, ◌+◌, ◌<◌, List, [], ◌∷◌, ◌++◌, ◌∙◌, length, get_or, take, drop, Option, Result, Ok, Err, IsErr, ap, sym, append_assoc, append-nil, refl, subst, arith, take-append-drop}
use Rattle.std.proofs.lemmas.List.{drop_more}
use Rattle.std.specs.Io.KnownBytes.{Appends}
use Rattle.std.proofs.lemmas.Grind.{flat_map-append}
use Rattle.chi_history.specs.declared.entry.Entry.{Entry}
use Rattle.chi_history.specs.History.{end}
use Rattle.chi_history.specs.declared.line.Line.{Line}
use Rattle.chi_requester.specs.declared.race_of_any.Racer.{Racer}
use Rattle.chi_requester.specs.Race.{lines_of_all}
use Rattle.chi_requester.specs.Team.{lines_in}
use Rattle.chi_script.specs.RunText.{granule_words}
use Rattle.chi_script.specs.Script.{ScriptValue}
use Rattle.chi_script.specs.Transcript.{granules_text, text}
use Rattle.chi_script.specs.WriterBytes.{AppendsFront, Puts}
use Rattle.chi_engine.specs.RaceTranscript.{numbers_from, race_lines, race_text, racers_text}
use Rattle.chi_engine.specs.Store.{opening_of}
use Rattle.chi_script.proofs.WriterBytesLemmas.{cut_more, taken_then}

-- a fault in the first call
pub puts_cut : {E : Type 0} (a b : Option (List ℕ)) (s t whole : List ℕ) (r : Result (Unit {0}) E) → IsErr r → AppendsFront a b s → s ++ t ≡ whole → Puts a b r whole
puts_cut a b s t whole (Ok done) failed p is = absurd (cc)
puts_cut a b s t whole (Err fault) failed p is = subst (AppendsFront a b) is (cut_more a b s t p)

-- what the second call does
puts_two : {E : Type 0} (a b c : Option (List ℕ)) (s t : List ℕ) (r : Result (Unit {0}) E) → Appends a b s → Puts b c r t → Puts a c r (s ++ t)
puts_two a b c s t (Ok done) p q = taken_then a b c s t p q
puts_two a b c s t (Err fault) p q = record {
  front = s ++ q.front;
  rest = q.rest;
  whole = append_assoc s q.front q.rest ∙ ap (λ (l : List ℕ). s ++ l) q.whole;
  taken = taken_then a b c s q.front p q.taken;
}

pub puts_then : {E : Type 0} (a b c : Option (List ℕ)) (s t whole : List ℕ) (r : Result (Unit {0}) E) → Appends a b s → Puts b c r t → s ++ t ≡ whole → Puts a c r whole
puts_then a b c s t whole r p q is = subst (λ (l : List ℕ). Puts a c r l) is (puts_two a b c s t r p q)

-- a fault in a later call
pub puts_cut_then : {E : Type 0} (a b c : Option (List ℕ)) (s t rest whole : List ℕ) (r : Result (Unit {0}) E) → IsErr r → Appends a b s → AppendsFront b c t → (s ++ t) ++ rest ≡ whole → Puts a c r whole
puts_cut_then a b c s t rest whole (Ok done) failed p q is = absurd (cc)
puts_cut_then a b c s t rest whole (Err fault) failed p q is = puts_cut a c (s ++ t) rest whole (Err fault) failed (puts_two a b c s t (Err fault) p q) is

-- the lines of the racers before one, its own, and those after it
pub racers_parted : {S G A : Type 0} (racers : List (Racer S G A)) (i : ℕ) (x : Racer S G A) → i < length racers → x ≡ get_or racers i x
    → (racers_text (take i racers) ++ text x.lines.items) ++ racers_text (drop (i + 1) racers) ≡ racers_text racers
racers_parted racers i x inside is =
    append_assoc (racers_text (take i racers)) (text x.lines.items) (racers_text (drop (i + 1) racers))
    ∙ (ap (λ (l : List ℕ). racers_text (take i racers) ++ l) (ap racers_text (ap (λ y. y ∷ drop (i + 1) racers) is ∙ sym (drop_more racers i x inside)))
    ∙ (sym (flat_map-append (λ racer. text racer.lines.items) (take i racers) (drop i racers)) ∙ ap racers_text (take-append-drop i racers)))

-- the lines of racers whose numbers are from one on
racers_text_from : {S G A : Type 0} (first : ℕ) (lines : ℕ → List Line) (racers : List (Racer S G A))
    → ((i : ℕ) → i < length racers → lines (first + i) ≡ get_or (map lines_in racers) i []) → racers_text racers ≡ flat_map (λ r. text (lines r)) (numbers_from first (length racers))
racers_text_from first lines [] are = refl
racers_text_from first lines (x ∷ xs) are =
    let own : lines first ≡ x.lines.items = ap lines (omega arith) ∙ are 0 (omega arith) in
    let rest = racers_text_from (suc first) lines xs (λ i inside. ap lines (omega arith) ∙ are (suc i) (omega arith)) in
    rw (own, rest) refl

-- the lines of as many racers as there are workers, and of 0 after them
pub race_lines_are : {S G A : Type 0} (workers : ℕ) (zero : List Line) (racers : List (Racer S G A)) → length racers ≡ workers
    → racers_text racers ++ text zero ≡ race_lines workers (lines_of_all zero racers)
race_lines_are workers zero racers count =
    rw (← count) (ap (λ (told : List ℕ). told ++ text zero) (racers_text_from 1 (lines_of_all zero racers) racers (λ i inside. let e : 1 + i ≡ suc i = omega arith in ap (lines_of_all zero racers) e)))

-- the whole transcript of a race
pub race_text_is : {S G A : Type 0} (workers : ℕ) (s : ScriptValue) (since : List Entry) (zero last : List Line) (racers : List (Racer S G A)) (base : ℕ) (words : List ℕ)
    → length racers ≡ workers → last ≡ zero → base ≡ s.region.base → words ≡ granule_words (end (opening_of s) since) s.region.base s.region.granules
    → (racers_text racers ++ text last) ++ granules_text base words ≡ race_text workers s since (lines_of_all zero racers)
race_text_is workers s since zero last racers base words count same at_base shown = rw (same, at_base, shown, race_lines_are workers zero racers count) refl

-- what was written is a prefix in both cases
pub puts_front : {E : Type 0} (a b : Option (List ℕ)) (s : List ℕ) (r : Result (Unit {0}) E) → Puts a b r s → AppendsFront a b s
puts_front a b s (Ok done) p = record { front = s; rest = []; whole = append-nil s; taken = p }
puts_front a b s (Err fault) p = p
