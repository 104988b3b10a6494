-- what a requester's work adds to its lines and to the history
use Rattle.std.specs.Prelude.{◌≡◌, ◌≢◌, ℕ, ◌*◌, ◌==◌, ◌≤◌, List, [], ◌++◌, filter, Result, Ok, Err}
use Rattle.chi_fields.specs.declared.request.Request.{Request}
use Rattle.chi_history.specs.declared.entry.Entry.{Entry}
use Rattle.chi_history.specs.declared.line.Line.{Line}
use Rattle.chi_history.specs.declared.opening.Opening.{Opening}
use Rattle.chi_history.specs.NumberSets.{Held, only, union, without}
use Rattle.chi_history.specs.History.{IsFreeOf, hits, of}
use Rattle.chi_history.specs.Lines.{entries, retried}
use Rattle.chi_requester.specs.declared.fault.WorkFault.{WorkFault}
use Rattle.chi_requester.specs.declared.policy.Policy.{Policy}
use Rattle.chi_requester.specs.Reports.{Told}
use Rattle.chi_requester.specs.Stretches.{Stretches}

-- the requests of one requester, in order
abbrev pub own_requests : List Request → ℕ → List Request
own_requests qs src = filter (λ q. q.src == src) qs

-- the requests that were not executed: none after Ok, and at least one after Memory
abbrev pub AreLeft : Result (Unit {0}) WorkFault → List Request → Type 0
AreLeft (Ok _) rest = rest ≡ []
AreLeft (Err _) rest = rest ≢ []

-- The lines report these requests of the requester src, in order. The history went on by the entries of the
-- completed ones, and by entries of numbers that the seat does not hold, in one stretch for each request. Each
-- RetryAck was paid for by as many changes of its granule as the limit says, made by others in its own stretch.
pub record IsExecuted (o : Opening) (policy : Policy) (limit : ℕ) (held : Held) (src : ℕ) (seen seen' : List Entry) (qs : List Request) (lines : List Line) : Type 0 where
  pub since : List Entry
  pub grown : seen' ≡ seen ++ since
  pub mine : entries lines ≡ of since src
  pub free : IsFreeOf (without src held) since
  pub paid : (g : ℕ) → limit * retried o.region lines g ≤ hits o seen since g held
  pub told : Told o.region policy limit qs lines
  pub stretches : Stretches o policy limit held seen seen' qs lines

-- The requests of src were executed, all of them after Ok, and a proper prefix of them after Memory. Earlier
-- lines stay.
pub record IsWorkRun (result : Result (Unit {0}) WorkFault) (o : Opening) (policy : Policy) (limit : ℕ) (held : Held) (src : ℕ) (all : List Request) (seen seen' : List Entry) (lines lines' : List Line) : Type 0 where
  pub done : List Request
  pub left : List Request
  pub parts : done ++ left ≡ own_requests all src
  pub are_left : AreLeft result left
  pub appended : List Line
  pub kept : lines' ≡ lines ++ appended
  pub executed : IsExecuted o policy limit held src seen seen' done appended

-- The lines report these requests of src, and what src did after the history seen is what they report. Its own seat
-- saw the first entries, none of which is of 0, in one stretch for each request. Each RetryAck was paid for by as many
-- changes of its granule as the limit says, made by others than 0 and src in its own stretch.
pub record IsRacer (o : Opening) (policy : Policy) (limit : ℕ) (src : ℕ) (seen since : List Entry) (qs : List Request) (lines : List Line) : Type 0 where
  pub mine : entries lines ≡ of since src
  pub told : Told o.region policy limit qs lines
  pub paid : (g : ℕ) → limit * retried o.region lines g ≤ hits o seen since g (union (only 0) (only src))
  pub first : List Entry
  pub rest : List Entry
  pub parts : since ≡ first ++ rest
  pub zero_free : IsFreeOf (only 0) first
  pub stretches : Stretches o policy limit (only src) seen (seen ++ first) qs lines

-- one requester's requests that were executed and those that were not, and the lines appended
pub record Share : Type 0 where
  pub done : List Request
  pub left : List Request
  pub appended : List Line

-- The requests of src are those executed and then those not executed. Earlier lines stay.
pub record IsShare (all : List Request) (src : ℕ) (lines lines' : List Line) (share : Share) : Type 0 where
  pub parts : share.done ++ share.left ≡ own_requests all src
  pub kept : lines' ≡ lines ++ share.appended
