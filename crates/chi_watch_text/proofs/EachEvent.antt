-- where each line is an event, these are the events that the lines tell
use Rattle.std.proofs.Common.{◌≡◌, ◌∙◌, ℕ, ◌+◌, List, [], ◌∷◌, ◌++◌, append-nil, Result, Ok, Err, ap, refl, subst, sym}
use Rattle.chi_events.specs.declared.event.Event.{Event}
use Rattle.chi_reading.specs.EventText.{event_text}
use Rattle.chi_reading.specs.declared.fault.LineFault.{LineFault}
use Rattle.chi_watch_text.specs.LineTold.{Read, Taken, event_told, line_told, taken_by}
use Rattle.chi_watch_text.specs.Lines.{AreEvents}
use Rattle.chi_watch_text.specs.Saved.{AreOf}
use Rattle.chi_watch_text.specs.declared.line_format.ErrorEffect.TheVariants as effect
use Rattle.chi_watch_text.specs.declared.line_format.LineFormat.TheVariants.{Events}

-- what a line tells is its event alone
one_event : (before : Read) (read : Result Event LineFault) (taken : Taken) → taken_by effect.Unknown before.events (event_told before.seen read) ≡ Ok taken
    → (e : Event) × (read ≡ Ok e) × (taken.events ≡ e ∷ [])
one_event before (Ok e) taken is =
    let both : taken_by effect.Unknown before.events (event_told before.seen (Ok e)) ≡ Ok taken = is in
    (e, refl, of_ok both)
  where
    of_ok : taken_by effect.Unknown before.events (Ok (record { events = e ∷ []; seen = before.seen })) ≡ Ok taken → taken.events ≡ e ∷ []
    of_ok same = cc
one_event before (Err f) taken is = absurd (let no : taken_by effect.Unknown before.events (event_told before.seen (Err f)) ≡ Ok taken = is in cc)

pub each_event : (number : ℕ) (before : Read) (lines : List (List ℕ)) (events : List Event) (read : Read) → AreEvents Events number before lines events [] read → AreOf number lines events
unfolding AreEvents AreOf line_told
each_event number before [] events read (none, nothing, same) = subst (AreOf number []) (sym none) tt
each_event number before (line ∷ []) events read are =
    let one = one_event before (event_text number line) (record { events = events ++ []; read = read }) are in
    subst (AreOf number (line ∷ [])) (sym (sym (append-nil events) ∙ one.2)) (one.1, tt)
each_event number before (line ∷ next ∷ lines) events read (taken, is, (later, whole, are)) =
    let one = one_event before (event_text number line) taken is in
    subst (AreOf number (line ∷ next ∷ lines)) (sym (whole ∙ ap (λ l. l ++ later) one.2)) (one.1, each_event (number + 1) taken.read (next ∷ lines) later read are)
