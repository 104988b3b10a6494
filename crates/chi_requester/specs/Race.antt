-- what requesters who work at the same time, and 0 after them, add to the history
use Rattle.std.specs.Prelude.{◌≡◌, ◌≢◌, ℕ, Bool, true, false, List, [], ◌∷◌, ◌++◌, slice_index_or, map, All, Result}
use Rattle.chi_fields.specs.declared.request.Request.{Request}
use Rattle.chi_history.specs.declared.entry.Entry.{Entry}
use Rattle.chi_history.specs.declared.line.Line.{Line}
use Rattle.chi_history.specs.declared.line.Line.TheVariants.{Completed, Refused, Retried}
use Rattle.chi_history.specs.declared.opening.Opening.{Opening}
use Rattle.chi_history.specs.NumberSets.{Held, only, union}
use Rattle.chi_history.specs.History.{IsLegal, of}
use Rattle.chi_history.specs.Lines.{entries}
use Rattle.chi_requester.specs.declared.fault.WorkFault.{WorkFault}
use Rattle.chi_requester.specs.declared.policy.Policy.{Policy}
use Rattle.chi_requester.specs.declared.race_of_any.Racer.{Racer}
use Rattle.chi_requester.specs.declared.race_of_four.RaceFour.{RaceFour}
use Rattle.chi_requester.specs.declared.race_of_two.Race.{Race}
use Rattle.chi_requester.specs.Team.{AreLeftBy, lines_in}
use Rattle.chi_requester.specs.Reports.{Told}
use Rattle.chi_requester.specs.Work.{IsRacer, IsShare, Share}

abbrev pub one_and_two : Held
one_and_two = union (only 1) (only 2)

abbrev pub one_to_four : Held
one_to_four = union (union one_and_two (only 3)) (only 4)

-- the lines of each requester of a race; numbers past these have none
abbrev pub lines_of : {A : Type 0} → Race A → ℕ → List Line
lines_of race = λ r. slice_index_or (race.zero.items ∷ race.one.items ∷ race.two.items ∷ []) r []

abbrev pub lines_of_four : {A : Type 0} → RaceFour A → ℕ → List Line
lines_of_four race = λ r. slice_index_or (race.zero.items ∷ race.one.items ∷ race.two.items ∷ race.three.items ∷ race.four.items ∷ []) r []

-- the lines of 0, and of each racer from 1 on
abbrev pub lines_of_all : {S G A : Type 0} → List Line → List (Racer S G A) → ℕ → List Line
lines_of_all zero racers = λ r. slice_index_or (zero ∷ map lines_in racers) r []

-- each entry is of a number in the set
unfoldable pub IsOf : Held → List Entry → Type 0
IsOf held [] = Unit {0}
IsOf held (e ∷ es) = (held e.src ≡ true) × IsOf held es

abbrev pub is_retry : Line → Bool
is_retry (Completed q reply) = false
is_retry (Refused q fault) = false
is_retry (Retried q) = true

-- A legal history: first entries of the racers, in any order, and then entries of 0. The lines of each report
-- its requests and entries, and 0 had no RetryAck.
pub record IsRace (o : Opening) (policy : Policy) (limit : ℕ) (racers : Held) (seen since : List Entry) (qs : ℕ → List Request) (lines : ℕ → List Line) : Type 0 where
  pub legal : IsLegal o (seen ++ since)
  pub raced : List Entry
  pub last : List Entry
  pub parts : since ≡ raced ++ last
  pub of_racers : IsOf racers raced
  pub of_zero : IsOf (only 0) last
  pub racer : (r : ℕ) → racers r ≡ true → IsRacer o policy limit r seen since (qs r) (lines r)
  pub zero_mine : entries (lines 0) ≡ of since 0
  pub zero_told : Told o.region policy limit (qs 0) (lines 0)
  pub zero_unretried : All (λ line. is_retry line ≡ false) (lines 0)

-- The racers' requests were executed at the same time, and then those of 0: all of them after Ok. After Memory a
-- prefix of each one's, at least one of these proper; and none of 0's where that of a racer is proper. Earlier
-- lines stay.
pub record IsRaceRun (result : Result (Unit {0}) WorkFault) (o : Opening) (policy : Policy) (limit : ℕ) (racers : Held) (all : List Request)
    (seen seen' : List Entry) (lines lines' : ℕ → List Line) : Type 0 where
  pub since : List Entry
  pub grown : seen' ≡ seen ++ since
  pub share : ℕ → Share
  pub shares : (r : ℕ) → union racers (only 0) r ≡ true → IsShare all r (lines r) (lines' r) (share r)
  pub are_left : AreLeftBy result (union racers (only 0)) share
  pub zero_waits : (r : ℕ) → racers r ≡ true → (share r).left ≢ [] → (share 0).done ≡ []
  pub race : IsRace o policy limit racers seen since (λ r. (share r).done) (λ r. (share r).appended)
