-- of the lines of a text those that tell of a granule, line by line
use Rattle.std.proofs.Common.{◌≡◌, ◌∙◌, ℕ, ◌+◌, ◌<◌, ◌/◌, ◌==◌, Bool, cond, false, true≢false, List, [], ◌∷◌, ◌++◌, length, Ok, Err, refl, sym, ap, ap₂, append-nil, append_assoc, arith}
use Rattle.std.specs.Io.BufRead.{drop_through, take_through}
use Rattle.chi_events.specs.declared.event.Event.{Event}
use Rattle.chi_events.specs.declared.event.EventKind.{EventKind}
use Rattle.chi_events.specs.declared.event.EventKind.TheVariants as kind
use Rattle.chi_points.specs.PointedPort.{nothing_seen}
use Rattle.chi_reading.specs.EventText.{event_text}
use Rattle.chi_watch_text.specs.Lines.{AreLines}
use Rattle.chi_watch_text.specs.LineTold.{event_told}
use Rattle.chi_watch_text.specs.Reading.{IsLineFault}
use Rattle.chi_watch_text.specs.Saved.{AreOf, AreWhole, IsOfNoLine, line_about, lines_about, no_number, numbers_after, tells_of}
use Rattle.chi_watch_text.specs.declared.fault.LinesFault.{LinesFault}
use Rattle.chi_watch_text.specs.declared.fault.LinesFault.TheVariants as fault

-- only which numbers they are matters
after_same : (g : ℕ) (numbers others : ℕ → Bool) (k : EventKind) → ((id : ℕ) → numbers id ≡ others id) → (id : ℕ) → numbers_after g numbers k id ≡ numbers_after g others k id
after_same g numbers others (kind.Request r) same id = ap (λ (b : Bool). cond (r.id == id) (r.fields.addr / 8 == g) b) (same id)
after_same g numbers others (kind.Data p) same id = same id
after_same g numbers others (kind.Reply c) same id = same id
after_same g numbers others (kind.Dropped n) same id = same id
after_same g numbers others (kind.Refused n reason) same id = same id
after_same g numbers others (kind.Word told) same id = same id
after_same g numbers others (kind.Final told) same id = same id
after_same g numbers others (kind.Unknown addr len) same id = same id
after_same g numbers others kind.End same id = same id

tells_same : (g : ℕ) (numbers others : ℕ → Bool) (k : EventKind) → ((id : ℕ) → numbers id ≡ others id) → tells_of g numbers k ≡ tells_of g others k
tells_same g numbers others (kind.Request r) same = refl
tells_same g numbers others (kind.Data p) same = same p.id
tells_same g numbers others (kind.Reply c) same = same c.id
tells_same g numbers others (kind.Dropped n) same = same n
tells_same g numbers others (kind.Refused n reason) same = same n
tells_same g numbers others (kind.Word told) same = refl
tells_same g numbers others (kind.Final told) same = refl
tells_same g numbers others (kind.Unknown addr len) same = refl
tells_same g numbers others kind.End same = refl

about_same : (g : ℕ) (numbers others : ℕ → Bool) (lines : List (List ℕ)) (events : List Event) → ((id : ℕ) → numbers id ≡ others id)
    → lines_about g numbers lines events ≡ lines_about g others lines events
unfolding lines_about
about_same g numbers others [] events same = refl
about_same g numbers others (line ∷ lines) [] same = refl
about_same g numbers others (line ∷ lines) (e ∷ events) same =
    ap₂ (λ (b : Bool) l. cond b line [] ++ l) (tells_same g numbers others e.kind same)
    (about_same g (numbers_after g numbers e.kind) (numbers_after g others e.kind) lines events (after_same g numbers others e.kind same))

-- These lines are left, with their events; with what is saved so far they make all that tell of the granule.
pub record IsLeft (g : ℕ) (numbers : ℕ → Bool) (number : ℕ) (rest saved all : List ℕ) : Type 0 where
  pub lines : List (List ℕ)
  pub events : List Event
  pub are_lines : AreLines rest lines []
  pub are_events : AreOf number lines events
  pub all_is : all ≡ saved ++ lines_about g numbers lines events

-- all are left at the start
pub all_left : (g : ℕ) (numbers : ℕ → Bool) (text saved : List ℕ) → ((id : ℕ) → numbers id ≡ no_number id) → saved ≡ []
    → (lines : List (List ℕ)) (events : List Event) → AreWhole text lines events
    → IsLeft g numbers 1 text saved (lines_about g no_number lines events)
all_left g numbers text saved none empty lines events whole = record {
  lines = lines;
  events = events;
  are_lines = whole.are_lines;
  are_events = whole.are_events;
  all_is = sym (about_same g numbers no_number lines events none) ∙ ap (λ l. l ++ lines_about g numbers lines events) (sym empty);
}

-- none at the end
pub none_left : (g : ℕ) (numbers : ℕ → Bool) (number : ℕ) (rest saved all : List ℕ) → length rest ≡ 0 → IsLeft g numbers number rest saved all → saved ≡ all
unfolding AreLines lines_about
none_left g numbers number rest saved all empty left = by_lines left.lines left.are_lines left.all_is
  where
    by_lines : (lines : List (List ℕ)) → AreLines rest lines [] → all ≡ saved ++ lines_about g numbers lines left.events → saved ≡ all
    by_lines [] are is = sym (append-nil saved) ∙ sym is
    by_lines (line ∷ lines) are is = absurd (omega (arith, empty, are.0))

-- a line more was read, and its event
pub line_saved : (g : ℕ) (numbers after : ℕ → Bool) (number : ℕ) (rest saved new all : List ℕ) (e : Event) → 0 < length rest → event_text number (take_through 10 rest) ≡ Ok e
    → new ≡ saved ++ line_about g numbers (take_through 10 rest) e.kind → ((id : ℕ) → after id ≡ numbers_after g numbers e.kind id) → IsLeft g numbers number rest saved all
    → IsLeft g after (number + 1) (drop_through 10 rest) new all
unfolding AreOf AreLines lines_about
line_saved g numbers after number rest saved new all e some tells is noted left = by_lines left.lines left.events left.are_lines left.are_events left.all_is
  where
    by_lines : (lines : List (List ℕ)) (events : List Event) → AreLines rest lines [] → AreOf number lines events → all ≡ saved ++ lines_about g numbers lines events
        → IsLeft g after (number + 1) (drop_through 10 rest) new all
    by_lines [] events none are all_is = absurd (let empty = ap length none in omega (arith, some, empty))
    by_lines (line ∷ lines) [] more are all_is = absurd are
    by_lines (line ∷ lines) (d ∷ events) (more, line_is, are_lines) (told, are_events) all_is =
        let same : d ≡ e = let both : Ok d ≡ Ok e = sym told ∙ (ap (event_text number) line_is ∙ tells) in cc in
        let here : line_about g numbers line d.kind ≡ line_about g numbers (take_through 10 rest) e.kind = ap₂ (λ l (k : Event). line_about g numbers l k.kind) line_is same in
        let later : lines_about g (numbers_after g numbers d.kind) lines events ≡ lines_about g after lines events =
        ap (λ (k : Event). lines_about g (numbers_after g numbers k.kind) lines events) same ∙ sym (about_same g after (numbers_after g numbers e.kind) lines events noted) in
        record {
          lines = lines;
          events = events;
          are_lines = are_lines;
          are_events = are_events;
          all_is = all_is ∙ (ap₂ (λ (a b : List ℕ). saved ++ (a ++ b)) here later
              ∙ (sym (append_assoc saved (line_about g numbers (take_through 10 rest) e.kind) (lines_about g after lines events))
              ∙ ap (λ l. l ++ lines_about g after lines events) (sym is)));
        }

-- and no line is at fault
pub none_refused : (g : ℕ) (numbers : ℕ → Bool) (number : ℕ) (rest saved all : List ℕ) (f : LinesFault) → 0 < length rest → IsLineFault (event_told nothing_seen (event_text number (take_through 10 rest))) number f
    → IsLeft g numbers number rest saved all → IsOfNoLine f
unfolding AreOf AreLines
none_refused g numbers number rest saved all fault.Read some refused left = tt
none_refused g numbers number rest saved all (fault.Line n f) some refused left = by_lines left.lines left.events left.are_lines left.are_events
  where
    by_lines : (lines : List (List ℕ)) (events : List Event) → AreLines rest lines [] → AreOf number lines events → ⊥
    by_lines [] events none are = absurd (let empty = ap length none in omega (arith, some, empty))
    by_lines (line ∷ lines) [] more are = are
    by_lines (line ∷ lines) (d ∷ events) (more, line_is, are_lines) (told, are_events) =
        let both : event_told nothing_seen (Ok d) ≡ Err f = ap (event_told nothing_seen) (sym told ∙ ap (event_text number) line_is) ∙ refused.1 in cc
none_refused g numbers number rest saved all (fault.Event n f) some refused left = refused
none_refused g numbers number rest saved all fault.TooManyLines some refused left = tt
none_refused g numbers number rest saved all fault.Write some refused left = refused
none_refused g numbers number rest saved all fault.Memory some refused left = tt

-- something is left
pub some_left : (rest : List ℕ) (is_empty : Bool) → is_empty ≡ (length rest == 0) → is_empty ≡ false → 0 < length rest
some_left [] is_empty is not = absurd (true≢false (sym is ∙ not))
some_left (b ∷ rest) is_empty is not = omega arith
