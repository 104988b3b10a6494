-- what is found and why it is watched no further where a line is refused
use Rattle.std.proofs.Common.{◌≡◌, ◌⊎◌, ℕ, ◌≤◌, ◌<◌, ◌+◌, Bool, List, [], All, Option, None, Some, IfSome, IsSomeAnd, false, inl, inr, refl, sym, true, subst, arith}
use Rattle.std.specs.Io.BufRead.{take_through}
use Rattle.std.proofs.lemmas.List.Elements.{All-weaker}
use Rattle.chi_watch.specs.Watches.{WatchValue}
use Rattle.chi_watch_text.specs.LineTold.{time_stated}
use Rattle.chi_watch_text.specs.Lines.{AreTold, StatesLater}
use Rattle.chi_watch_text.specs.Outcomes.{AreTaken, HasTakenLines, IsFoundBy, IsLinesFault, IsStillFound, IsWatchingFault}
use Rattle.chi_watch_text.specs.Reading.{FailsNext, IsAtRefused, IsRefusedLater}
use Rattle.chi_watch_text.specs.declared.fault.LinesFault.{LinesFault}
use Rattle.chi_watch_text.specs.declared.fault.LinesFault.TheVariants as fault
use Rattle.chi_watch_text.specs.declared.line_format.LineFormat.{LineFormat}
use Rattle.chi_watch_text.specs.declared.quiet.Quiet.{Quiet}
use Rattle.chi_watch_text.specs.declared.reading.Reading.{Reading}
use Rattle.chi_watch_text.specs.declared.watched.FoundGranule.{FoundGranule}
use Rattle.chi_watch_text.proofs.Told.{found_past}

-- by the events that were told up to a line that is refused, and that states a flit of a later time
states_later : (text rest : List ℕ) (time : ℕ) (ended : Bool) (found : List FoundGranule) (quiet : List Quiet) (w : WatchValue) (r s : Reading) (f : LinesFault) → (has : AreTaken text time ended found quiet w r rest)
    → s.format ≡ r.format → IsAtRefused text has.events s f → IsRefusedLater s f time → StatesLater r.format text has.events
states_later text rest time ended found quiet w r s fault.Read has format at later = absurd later
states_later text rest time ended found quiet w r s (fault.Line n f) has format (left, told, line) later = (
  s.number,
  left,
  subst (λ (k : LineFormat). AreTold k text s.number has.events [] left) format told,
  by_time (time_stated r.format (s.number + 1) (take_through 10 left))
      (subst (λ (l : List ℕ). IsSomeAnd (time_stated r.format (s.number + 1) l) (λ t. time < t)) line
      (subst (λ (k : LineFormat). IsSomeAnd (time_stated k (s.number + 1) s.line.items) (λ t. time < t)) format later)),
)
  where
    by_time : (o : Option ℕ) → IsSomeAnd o (λ t. time < t) → IsSomeAnd o (λ t. All (λ d. d.time < t) has.events)
    by_time None is = absurd is
    by_time (Some t) is = All-weaker (λ d. d.time ≤ time) (λ d. d.time < t) (λ d le. omega (arith, le, is)) has.events has.times
states_later text rest time ended found quiet w r s (fault.Event n f) has format at later = absurd later
states_later text rest time ended found quiet w r s fault.TooManyLines has format at later = absurd later
states_later text rest time ended found quiet w r s fault.Write has format at later = absurd later
states_later text rest time ended found quiet w r s fault.Memory has format at later = absurd later

pub found_refused : (start now : Option (List ℕ)) (time : ℕ) (ended : Bool) (found after : List FoundGranule) (quiet : List Quiet) (w : WatchValue) (r s : Reading) (f : LinesFault)
    → HasTakenLines start time ended found quiet w r now → FailsNext start r now s f → s.format ≡ r.format
    → (after ≡ found) ⊎ (IsRefusedLater s f time × All (IsStillFound w quiet found) after) → IfSome start (λ text. All (IsFoundBy r.format text w.shown) after)
found_refused None now time ended found after quiet w r s f has fails format either = tt
found_refused (Some text) None time ended found after quiet w r s f has fails format either = absurd has
found_refused (Some text) (Some rest) time ended found after quiet w r s f has fails format (inl same) = subst (All (IsFoundBy r.format text w.shown)) (sym same) has.found_by
found_refused (Some text) (Some rest) time ended found after quiet w r s f has fails format (inr (later, each)) =
    found_past text rest time ended found after quiet w r has
    (inr (inr (states_later text rest time ended found quiet w r s f has format (fails has.events has.given).1 later))) each

-- why it is watched no further is the fault of the line, or comes of telling what was found
pub refused_fault : (format : LineFormat) (start : Option (List ℕ)) (f told : LinesFault) → IfSome start (λ text. IsLinesFault format text f)
    → (told ≡ f) ⊎ ((told ≡ fault.Memory) ⊎ (told ≡ fault.Write)) → IfSome start (λ text. IsWatchingFault format text told)
refused_fault format None f told is either = tt
refused_fault format (Some text) f told is (inl same) = λ not_write. subst (IsLinesFault format text) (sym same) is
refused_fault format (Some text) f told is (inr (inl memory)) = λ not_write. subst (IsLinesFault format text) (sym memory) tt
refused_fault format (Some text) f told is (inr (inr write)) = λ not_write. absurd (not_write write)

-- what is found then
pub found_then : (is_past : Bool) (w : WatchValue) (found after : List FoundGranule) (quiet quiet_after : List Quiet) (s : Reading) (f : LinesFault) (time : ℕ)
    → (is_past ≡ false → (after ≡ found) × (quiet_after ≡ quiet)) → (is_past ≡ true → All (IsStillFound w quiet found) after) → (is_past ≡ true → IsRefusedLater s f time)
    → (after ≡ found) ⊎ (IsRefusedLater s f time × All (IsStillFound w quiet found) after)
found_then true w found after quiet quiet_after s f time waits each later = inr (later refl, each refl)
found_then false w found after quiet quiet_after s f time waits each later = inl (waits refl).0
