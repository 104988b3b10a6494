-- requesters who work at the same time, each by a seat of its own
use Rattle.std.specs.Prelude.{◌≡◌, ◌≢◌, ℕ, zero, suc, ◌<◌, true, List, [], ◌++◌, length, slice_index_or, IsSomeAnd, Result, Ok, Err}
use Rattle.chi_fields.specs.declared.request.Request.{Request}
use Rattle.chi_history.specs.declared.entry.Entry.{Entry}
use Rattle.chi_history.specs.declared.line.Line.{Line}
use Rattle.chi_history.specs.declared.opening.Opening.{Opening}
use Rattle.chi_history.specs.NumberSets.{Held, nobody, only, union, without}
use Rattle.chi_history.specs.History.{IsFreeOf}
use Rattle.chi_requester.specs.declared.fault.WorkFault.{WorkFault}
use Rattle.chi_requester.specs.declared.policy.Policy.{Policy}
use Rattle.chi_requester.specs.declared.race_of_any.Racer.{Racer}
use Rattle.chi_requester.specs.Work.{IsRacer, IsShare, IsWorkRun, Share}

-- the numbers from 1 to n
abbrev pub one_to : ℕ → Held
one_to zero = nobody
one_to (suc n) = union (one_to n) (only (suc n))

-- the set after the numbers from 1 to n are taken out
abbrev pub without_to : ℕ → Held → Held
without_to zero held = held
without_to (suc n) held = without (suc n) (without_to n held)

abbrev pub lines_in : {S G A : Type 0} → Racer S G A → List Line
lines_in racer = racer.lines.items

-- the seat comes from the home's opening, and holds this number alone
pub record IsOwn {S : Type 0} (Belongs : S → Type 0) (held : S → Held) (src : ℕ) (seat : S) : Type 0 where
  pub own : Belongs seat
  pub alone : held seat ≡ only src

-- the racer has a seat for this number
abbrev pub IsReady : {S G A : Type 0} → (S → Type 0) → (S → Held) → ℕ → Racer S G A → Type 0
IsReady Belongs held src racer = IsSomeAnd racer.seat (IsOwn Belongs held src)

-- the racer has a seat for this number, which has seen just this history
abbrev pub IsSeated : {S G A : Type 0} → (S → Type 0) → (S → Held) → (S → List Entry) → List Entry → ℕ → Racer S G A → Type 0
IsSeated Belongs held seen start src racer = IsSomeAnd racer.seat (λ seat. IsOwn Belongs held src seat × (seen seat ≡ start))

-- the racer executed its requests by its seat, and has it still
abbrev pub HasRaced : {S G A : Type 0} → (S → Type 0) → (S → Held) → (S → List Entry) → Opening → Policy → ℕ → List Request → List Entry → ℕ → List Line → Racer S G A → Type 0
HasRaced Belongs held seen o policy limit all start src lines racer =
    IsSomeAnd racer.seat (λ seat. IsOwn Belongs held src seat × IsWorkRun racer.outcome o policy limit (only src) src all start (seen seat) lines racer.lines.items)

-- each racer, of which the first is 1, has a seat for its number
abbrev pub AreReady : {S G A : Type 0} → (S → Type 0) → (S → Held) → List (Racer S G A) → Type 0
AreReady {S = S} {G = G} {A = A} Belongs held racers = (i : ℕ) (d : Racer S G A) → i < length racers → IsReady Belongs held (suc i) (slice_index_or racers i d)

abbrev pub AreSeated : {S G A : Type 0} → (S → Type 0) → (S → Held) → (S → List Entry) → List Entry → List (Racer S G A) → Type 0
AreSeated {S = S} {G = G} {A = A} Belongs held seen start racers = (i : ℕ) (d : Racer S G A) → i < length racers → IsSeated Belongs held seen start (suc i) (slice_index_or racers i d)

-- each racer executed its requests
abbrev pub HaveRaced : {S G A : Type 0} → (S → Type 0) → (S → Held) → (S → List Entry) → Opening → Policy → ℕ → List Request → List Entry → (ℕ → List Line) → List (Racer S G A) → Type 0
HaveRaced {S = S} {G = G} {A = A} Belongs held seen o policy limit all start lines racers =
    (i : ℕ) (d : Racer S G A) → i < length racers → HasRaced Belongs held seen o policy limit all start (suc i) (lines (suc i)) (slice_index_or racers i d)

-- the requests of the set that were not executed: none after Ok, and at least one after Memory
abbrev pub AreLeftBy : Result (Unit {0}) WorkFault → Held → (ℕ → Share) → Type 0
AreLeftBy (Ok _) set share = (r : ℕ) → set r ≡ true → (share r).left ≡ []
AreLeftBy (Err _) set share = (r : ℕ) × (set r ≡ true) × ((share r).left ≢ [])

-- The team executed its requests by seats of their own, which a seat that had kept other numbers, 0 among them,
-- has taken back. What was added is of none that was kept. Earlier lines of the team stay.
pub record IsTeamRun (result : Result (Unit {0}) WorkFault) (o : Opening) (policy : Policy) (limit : ℕ) (all : List Request) (kept team held : Held)
    (seen seen' : List Entry) (lines lines' : ℕ → List Line) : Type 0 where
  pub since : List Entry
  pub grown : seen' ≡ seen ++ since
  pub zero_kept : kept 0 ≡ true
  pub held_is : held ≡ union kept team
  pub free : IsFreeOf kept since
  pub share : ℕ → Share
  pub shares : (r : ℕ) → team r ≡ true → IsShare all r (lines r) (lines' r) (share r)
  pub racer : (r : ℕ) → team r ≡ true → IsRacer o policy limit r seen since (share r).done (share r).appended
  pub are_left : AreLeftBy result team share
