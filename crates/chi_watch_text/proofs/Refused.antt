-- a line that is refused, or an event that is not taken
use Rattle.std.proofs.Common.{◌≡◌, ℕ, ◌⊎◌, List, ◌∷◌, Option, None, Some, IfSome, inl, inr, sym, subst}
use Rattle.chi_events.specs.declared.event.Event.{Event}
use Rattle.chi_watch.specs.Watches.{HasTaken, WatchValue}
use Rattle.chi_watch_text.specs.Lines.{AreTold}
use Rattle.chi_watch_text.specs.Outcomes.{IsEventFault, IsLinesFault, IsNotTaken, IsWatchingFault}
use Rattle.chi_watch_text.specs.Reading.{FailsNext, GivesNext, HasGiven, IsOfLast}
use Rattle.chi_watch_text.specs.declared.fault.LinesFault.{LinesFault}
use Rattle.chi_watch_text.specs.declared.fault.LinesFault.TheVariants as fault
use Rattle.chi_watch_text.specs.declared.line_format.LineFormat.{LineFormat}
use Rattle.chi_watch_text.specs.declared.reading.Reading.{Reading}

-- a watch took the events that a reading of a text has given, which may not be known, and the rest follows
abbrev pub TookLines : Option (List ℕ) → WatchValue → Reading → Option (List ℕ) → Type 0
TookLines None w r rest = Unit {0}
TookLines (Some text) w r None = ⊥
TookLines (Some text) w r (Some rest) = (events : List Event) × HasGiven text events r rest × HasTaken events w

-- what is said of the text where a line is refused
pub where_refused : (start now : Option (List ℕ)) (w : WatchValue) (r s : Reading) (f : LinesFault) → TookLines start w r now → FailsNext start r now s f → IfSome start (λ text. IsLinesFault r.format text f)
where_refused None now w r s f has fails = tt
where_refused (Some text) None w r s f has fails = absurd has
where_refused (Some text) (Some rest) w r s fault.Read has fails = tt
where_refused (Some text) (Some rest) w r s (fault.Line n f) (events, given, has) fails = (events, (fails events given).0)
where_refused (Some text) (Some rest) w r s (fault.Event n f) (events, given, has) fails = absurd (fails events given).0
where_refused (Some text) (Some rest) w r s fault.TooManyLines has fails = tt
where_refused (Some text) (Some rest) w r s fault.Write (events, given, has) fails = absurd (fails events given).0
where_refused (Some text) (Some rest) w r s fault.Memory has fails = tt

-- or an event is not taken
pub where_not_taken : (start now later : Option (List ℕ)) (w : WatchValue) (r s : Reading) (e : Event) (f : LinesFault) → TookLines start w r now → GivesNext start r now (Some e) s later
    → IsEventFault w e s.number f → IfSome start (λ text. IsLinesFault s.format text f)
where_not_taken None now later w r s e f has gives is = tt
where_not_taken (Some text) None later w r s e f has gives is = absurd has
where_not_taken (Some text) (Some rest) later w r s e fault.Read has gives is = absurd is
where_not_taken (Some text) (Some rest) later w r s e (fault.Line n f) has gives is = absurd is
where_not_taken (Some text) (Some rest) later w r s e (fault.Event n f) (events, given, has) gives (same, refused) = by_rest later (gives events given).1
  where
    by_rest : (left : Option (List ℕ)) → IsOfLast (Some text) events e s left → IsNotTaken s.format text n f
    by_rest None last = absurd last
    by_rest (Some left) last =
        (events, e, s.pending.items, left, subst (λ (k : ℕ). AreTold s.format text k events (e ∷ s.pending.items) left) (sym same) last, (w, has, refused))
where_not_taken (Some text) (Some rest) later w r s e fault.TooManyLines has gives is = absurd is
where_not_taken (Some text) (Some rest) later w r s e fault.Write has gives is = absurd is
where_not_taken (Some text) (Some rest) later w r s e fault.Memory has gives is = tt

-- where it is not that a granule could not be told
pub but_write : (format : LineFormat) (start : Option (List ℕ)) (f : LinesFault) → IfSome start (λ text. IsLinesFault format text f) → IfSome start (λ text. IsWatchingFault format text f)
but_write format None f is = tt
but_write format (Some text) f is = λ not_write. is

-- no memory, or a granule that could not be told
pub held_up : (format : LineFormat) (start : Option (List ℕ)) (f : LinesFault) → (f ≡ fault.Memory) ⊎ (f ≡ fault.Write) → IfSome start (λ text. IsWatchingFault format text f)
held_up format None f is = tt
held_up format (Some text) f (inl memory) = λ not_write. subst (IsLinesFault format text) (sym memory) tt
held_up format (Some text) f (inr write) = λ not_write. absurd (not_write write)
