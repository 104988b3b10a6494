-- one line more is read, and one event more is given
use Rattle.std.proofs.Common.{◌≡◌, ℕ, ◌+◌, ◌<◌, ◌==◌, Bool, eqb-true, false, suc, zero, true≢false, List, [], ◌∷◌, ◌++◌, Option, None, Some, IfSome, Ok, Err, append_assoc, append-nil, length, length-append, refl, sym, ap, subst, ◌∙◌, true, arith}
use Rattle.std.proofs.lemmas.List.{nil_from_length}
use Rattle.std.specs.Io.BufRead.{drop_through, take_through}
use Rattle.chi_events.specs.declared.event.Event.{Event}
use Rattle.chi_points.specs.PointedPort.{Follows, Seen}
use Rattle.chi_points.specs.declared.pointed_port.PointedPort.{PointedPort}
use Rattle.chi_watch_text.specs.ErrorEffects.{Awaits, told_by_effect, with_events}
use Rattle.chi_watch_text.specs.LineTold.{Read, effect_of, line_taken, line_told, read_at_start, taken_by}
use Rattle.chi_watch_text.specs.Lines.{AreEvents, AreLines, AreTold, AreToldAll, is_blank}
use Rattle.chi_watch_text.specs.Reading.{BeginsWith, HasGiven, HasGivenAll, HasGivenOf, IsAtRefused, IsLineFault, IsOfLast, IsReadingFault, Keeps, RefusesBy, TakesBy}
use Rattle.chi_watch_text.specs.declared.awaited_data.AwaitedData.{AwaitedData}
use Rattle.chi_watch_text.specs.declared.fault.LinesFault.{LinesFault}
use Rattle.chi_watch_text.specs.declared.fault.LinesFault.TheVariants as fault
use Rattle.chi_watch_text.specs.declared.line_format.LineFormat.{LineFormat}
use Rattle.chi_watch_text.specs.declared.reading.Reading.{Reading}
use Rattle.chi_watch_text.proofs.KeptLines.{line_then_rest}

lines_more : (text : List ℕ) (lines : List (List ℕ)) (rest : List ℕ) → AreLines text lines rest → 0 < length rest → AreLines text (lines ++ take_through 10 rest ∷ []) (drop_through 10 rest)
unfolding AreLines
lines_more text [] rest is some = rw is (some, refl, refl)
lines_more text (line ∷ lines) rest (more, is, are) some = (more, is, lines_more (drop_through 10 text) lines rest are some)

module _ (format : LineFormat) where
  -- a line more, whose events are not given yet
  events_read : (number : ℕ) (before : Read) (lines : List (List ℕ)) (line : List ℕ) (events told : List Event) (read after : Read) → AreEvents format number before lines events [] read
      → line_taken format read (number + length lines) line ≡ Ok (record { events = told; read = after }) → AreEvents format number before (lines ++ line ∷ []) events told after
  unfolding AreEvents
  events_read number before [] line events told read after (none, nothing, same) is =
      let here : number + 0 ≡ number = omega arith in
      rw none (subst (λ n. line_taken format before n line ≡ Ok (record { events = told; read = after })) here (subst (λ (l : Read). line_taken format l (number + 0) line ≡ Ok (record { events = told; read = after })) same is))
  events_read number before (first ∷ []) line events told read after are is =
      (record { events = events ++ []; read = read }, are, ([], sym (append-nil events) ∙ sym (append-nil (events ++ [])), is))
  events_read number before (first ∷ next ∷ lines) line events told read after (here, tells, (later, whole, are)) is =
      let at : number + length (first ∷ next ∷ lines) ≡ number + 1 + length (next ∷ lines) = omega arith in (
        here,
        tells,
        (
          later,
          whole,
          events_read (number + 1) here.read (next ∷ lines) line later told read after are
              (subst (λ n. line_taken format read n line ≡ Ok (record { events = told; read = after })) at is),
        ),
      )

  -- an event more of the last line is given
  event_given : (number : ℕ) (before : Read) (lines : List (List ℕ)) (events : List Event) (e : Event) (more : List Event) (read : Read) → AreEvents format number before lines events (e ∷ more) read
      → AreEvents format number before lines (events ++ e ∷ []) more read
  unfolding AreEvents
  event_given number before [] events e more read (none, some, same) = absurd (let no = ap length some in omega (arith, no))
  event_given number before (line ∷ []) events e more read are =
      subst (λ (l : List Event). line_taken format before number line ≡ Ok (record { events = l; read = read })) (sym (append_assoc events (e ∷ []) more)) are
  event_given number before (line ∷ next ∷ lines) events e more read (here, tells, (later, whole, are)) =
      (here, tells, (later ++ e ∷ [], ap (λ l. l ++ e ∷ []) whole ∙ append_assoc here.events later (e ∷ []), event_given (number + 1) here.read (next ∷ lines) later e more read are))

-- the line tells its events, by what an error says
pub line_taken_as : (format : LineFormat) (number : ℕ) (line : List ℕ) (read : Read) (seen : Seen) (events told : List Event) (port : PointedPort) (awaited : AwaitedData)
    → line_told format read.seen number line ≡ Ok (record { events = events; seen = seen }) → told ≡ told_by_effect (effect_of format) read.events events
    → Follows seen port → Awaits (effect_of format) (with_events read.events events) awaited
    → (after : Read) × (line_taken format read number line ≡ Ok (record { events = told; read = after })) × Keeps format after port awaited
line_taken_as format number line read seen events told port awaited is told_is follows awaits =
    let after : Read = record { seen = seen; events = with_events read.events events } in (
      after,
      ap (taken_by (effect_of format) read.events) is ∙ ap (λ (l : List Event). Ok (record { events = l; read = after })) (sym told_is),
      record { seen = follows; awaits = awaits },
    )

-- what follows the same flits and events keeps the same
keeps_same : (old new : Reading) (read : Read) → new.format ≡ old.format → new.port ≡ old.port → new.awaited ≡ old.awaited → Keeps old.format read old.port old.awaited
    → Keeps new.format read new.port new.awaited
keeps_same old new read format port awaited keeps =
    subst (λ (f : LineFormat). Keeps f read new.port new.awaited) (sym format)
    (subst (λ (a : AwaitedData). Keeps old.format read new.port a) (sym awaited) (subst (λ (p : PointedPort). Keeps old.format read p old.awaited) (sym port) keeps))

-- The reading read one line more.
line_read : (text rest : List ℕ) (events : List Event) (old new : Reading) → HasGiven text events old rest → 0 < length rest → old.pending.items ≡ []
    → TakesBy old.format (old.number + 1) (take_through 10 rest) old.port old.awaited new.pending.items new.port new.awaited
    → new.number ≡ old.number + 1 → new.format ≡ old.format → HasGiven text events new (drop_through 10 rest)
line_read text rest events old new has some none takes number format =
    let t = has.told in
    let (after, is, keeps) = takes t.read has.keeps in
    let next : old.number + 1 ≡ 1 + length t.lines = omega (arith, t.count_is) in
    let was = subst (λ (l : List Event). AreEvents old.format 1 read_at_start t.lines events l t.read) none t.are_events in
    let all =
    events_read old.format 1 read_at_start t.lines (take_through 10 rest) events new.pending.items t.read after was
    (subst (λ n. line_taken old.format t.read n (take_through 10 rest) ≡ Ok (record { events = new.pending.items; read = after })) next is) in
    record {
      told = record {
        lines = t.lines ++ take_through 10 rest ∷ [];
        read = after;
        count_is = omega (arith, number, t.count_is, length-append t.lines (take_through 10 rest ∷ []));
        are_lines = lines_more text t.lines rest t.are_lines some;
        are_events = subst (λ (f : LineFormat). AreEvents f 1 read_at_start (t.lines ++ take_through 10 rest ∷ []) events new.pending.items after) (sym format) all;
      };
      keeps = subst (λ (f : LineFormat). Keeps f after new.port new.awaited) (sym format) keeps;
    }

-- or gave one event more
one_given : (text rest : List ℕ) (events : List Event) (old new : Reading) (e : Event) → HasGiven text events old rest → old.pending.items ≡ e ∷ new.pending.items
    → new.format ≡ old.format → new.port ≡ old.port → new.awaited ≡ old.awaited → new.number ≡ old.number → HasGiven text (events ++ e ∷ []) new rest
one_given text rest events old new e has is format port awaited number =
    let t = has.told in
    let was = subst (λ (l : List Event). AreEvents old.format 1 read_at_start t.lines events l t.read) is t.are_events in
    record {
      told = record {
        lines = t.lines;
        read = t.read;
        count_is = t.count_is ∙ sym number;
        are_lines = t.are_lines;
        are_events = subst (λ (f : LineFormat). AreEvents f 1 read_at_start t.lines (events ++ e ∷ []) new.pending.items t.read) (sym format)
            (event_given old.format 1 read_at_start t.lines events e new.pending.items t.read was);
      };
      keeps = keeps_same old new t.read format port awaited has.keeps;
    }

-- the same of a text that may not be known
pub line_read_of : (start now later : Option (List ℕ)) (events : List Event) (line : List ℕ) (old new : Reading) → HasGivenOf start events old now
    → IfSome now (λ text. (line ≡ take_through 10 text) × (later ≡ Some (drop_through 10 text))) → 0 < length line → old.pending.items ≡ []
    → TakesBy old.format (old.number + 1) line old.port old.awaited new.pending.items new.port new.awaited
    → new.number ≡ old.number + 1 → new.format ≡ old.format → HasGivenOf start events new later
line_read_of None now later events line old new has read some none takes number format = tt
line_read_of (Some text) None later events line old new has read some none takes number format = absurd has
line_read_of (Some text) (Some rest) later events line old new has (is, left) some none takes number format =
    subst (HasGivenOf (Some text) events new) (sym left)
    (line_read text rest events old new has (some_of rest (subst (λ (l : List ℕ). 0 < length l) is some)) none
    (subst (λ (l : List ℕ). TakesBy old.format (old.number + 1) l old.port old.awaited new.pending.items new.port new.awaited) is takes) number format)
  where
    some_of : (rest : List ℕ) → 0 < length (take_through 10 rest) → 0 < length rest
    some_of [] some = some
    some_of (b ∷ rest) some = omega arith

pub one_given_of : (start now : Option (List ℕ)) (events : List Event) (old new : Reading) (e : Event) → HasGivenOf start events old now → old.pending.items ≡ e ∷ new.pending.items
    → new.format ≡ old.format → new.port ≡ old.port → new.awaited ≡ old.awaited → new.number ≡ old.number → HasGivenOf start (events ++ e ∷ []) new now × IsOfLast start events e new now
one_given_of None now events old new e has is format port awaited number = (tt, tt)
one_given_of (Some text) None events old new e has is format port awaited number = absurd has
one_given_of (Some text) (Some rest) events old new e has is format port awaited number = (one_given text rest events old new e has is format port awaited number, of_last)
  where
    of_last : AreTold new.format text new.number events (e ∷ new.pending.items) rest
    of_last =
        subst (λ (f : LineFormat). AreTold f text new.number events (e ∷ new.pending.items) rest) (sym format)
        (subst (λ (n : ℕ). AreTold old.format text n events (e ∷ new.pending.items) rest) (sym number)
        (subst (λ (l : List Event). AreTold old.format text old.number events l rest) is has.told))

-- nothing was read
pub none_given : (r : Reading) → Keeps r.format read_at_start r.port r.awaited → r.number ≡ 0 → r.pending.items ≡ [] → (start : Option (List ℕ)) → HasGivenOf start [] r start
unfolding AreEvents AreLines
none_given r keeps first none None = tt
none_given r keeps first none (Some text) = record {
  told = record { lines = []; read = read_at_start; count_is = sym first; are_lines = refl; are_events = (refl, none, refl) };
  keeps = keeps;
}

-- The reading has given all events, and what it read since are blank lines.
pub all_given : (start now : Option (List ℕ)) (events : List Event) (r s : Reading) → HasGivenOf start events r now → r.pending.items ≡ [] → IfSome now (λ text. is_blank text ≡ true)
    → (s.port ≡ r.port) × (s.number ≡ r.number) → IfSome start (λ text. HasGivenAll r.format text events s)
all_given None now events r s has none blank same = tt
all_given (Some text) None events r s has none blank same = absurd has
all_given (Some text) (Some rest) events r s has none blank (port, number) = record {
  rest = rest;
  told = record {
    lines = has.told.lines;
    read = has.told.read;
    count_is = has.told.count_is ∙ sym number;
    are_lines = has.told.are_lines;
    are_events = subst (λ (l : List Event). AreEvents r.format 1 read_at_start has.told.lines events l has.told.read) none has.told.are_events;
  };
  blank = blank;
  seen = subst (λ (p : PointedPort). Follows has.told.read.seen p) (sym port) has.keeps.seen;
}

-- all is told
pub all_told : (format : LineFormat) (text : List ℕ) (events : List Event) (r : Reading) → HasGivenAll format text events r → AreToldAll format text events
all_told format text events r has = (r.number, has.rest, has.told, has.blank)

-- or a line tells nothing
pub line_refused : (start now : Option (List ℕ)) (events : List Event) (line : List ℕ) (r s : Reading) (f : LinesFault) → HasGivenOf start events r now → r.pending.items ≡ []
    → IfSome now (λ text. line ≡ take_through 10 text) → RefusesBy (λ seen. line_told r.format seen (r.number + 1) line) r.port (r.number + 1) f
    → s.format ≡ r.format → ((f ≡ fault.Memory → ⊥) → s.number ≡ r.number) → s.line.items ≡ line
    → IfSome start (λ text. IsReadingFault r.format text events f × IsAtRefused text events s f)
line_refused None now events line r s f has none is refuses format number last = tt
line_refused (Some text) None events line r s f has none is refuses format number last = absurd has
line_refused (Some text) (Some rest) events line r s f has none is refuses format number last = by_fault f (refuses has.told.read.seen has.keeps.seen) number
  where
    told_whole : AreTold r.format text r.number events [] rest
    told_whole = record {
      lines = has.told.lines;
      read = has.told.read;
      count_is = has.told.count_is;
      are_lines = has.told.are_lines;
      are_events = subst (λ (l : List Event). AreEvents r.format 1 read_at_start has.told.lines events l has.told.read) none has.told.are_events;
    }

    by_fault : (f : LinesFault) → IsLineFault (line_told r.format has.told.read.seen (r.number + 1) line) (r.number + 1) f → ((f ≡ fault.Memory → ⊥) → s.number ≡ r.number)
        → IsReadingFault r.format text events f × IsAtRefused text events s f
    by_fault fault.Read why count = absurd why
    by_fault (fault.Line n why) (same, told) count =
        let here : line_told r.format has.told.read.seen n (take_through 10 rest) ≡ Err why =
        subst (λ (l : List ℕ). line_told r.format has.told.read.seen n l ≡ Err why) is (subst (λ (k : ℕ). line_told r.format has.told.read.seen k line ≡ Err why) (sym same) told) in
        let still : s.number ≡ r.number = count (λ memory. cc) in (
          (r.number, rest, told_whole, sym same, here),
          (rest, subst (λ (k : LineFormat). AreTold k text s.number events [] rest) (sym format) (subst (λ (k : ℕ). AreTold r.format text k events [] rest) (sym still) told_whole), last ∙ is),
        )
    by_fault (fault.Event n why) told count = absurd told
    by_fault fault.TooManyLines why count = absurd why
    by_fault fault.Write why count = absurd why
    by_fault fault.Memory why count = (tt, tt)

-- bytes that were read, and a line more
pub line_after : (begin now later : Option (List ℕ)) (bytes line all : List ℕ) → BeginsWith begin bytes now → IfSome now (λ text. (line ≡ take_through 10 text) × (later ≡ Some (drop_through 10 text)))
    → all ≡ bytes ++ line → BeginsWith begin all later
line_after None now later bytes line all begins read is = tt
line_after (Some text) None later bytes line all begins read is = absurd begins
line_after (Some text) (Some rest) later bytes line all begins (same, left) is =
    subst (BeginsWith (Some text) all) (sym left)
    (begins ∙ (ap (λ l. bytes ++ l) (sym (line_then_rest rest)) ∙ (sym (append_assoc bytes (take_through 10 rest) (drop_through 10 rest))
    ∙ ap (λ l. l ++ drop_through 10 rest) (ap (λ l. bytes ++ l) (sym same) ∙ sym is))))

pub nothing_read : (begin : Option (List ℕ)) (bytes : List ℕ) → bytes ≡ [] → BeginsWith begin bytes begin
nothing_read None bytes none = tt
nothing_read (Some text) bytes none = ap (λ l. l ++ text) (sym none)

-- no event of a reading is left
pub none_pending : (r : Reading) (is_whole : Bool) → is_whole ≡ (length r.pending.items == 0) → is_whole ≡ true → r.pending.items ≡ []
none_pending r is_whole is whole = nil_from_length r.pending.items (eqb-true (length r.pending.items) 0 (sym is ∙ whole))

-- what only forgets its lines has given the same
pub same_given : (start now : Option (List ℕ)) (events : List Event) (old new : Reading) → new.format ≡ old.format → new.number ≡ old.number → new.pending.items ≡ old.pending.items → new.port ≡ old.port
    → new.awaited ≡ old.awaited → HasGivenOf start events old now → HasGivenOf start events new now
same_given None now events old new format number pending port awaited has = tt
same_given (Some text) None events old new format number pending port awaited has = absurd has
same_given (Some text) (Some rest) events old new format number pending port awaited has =
    let t = has.told in
    record {
      told = record {
        lines = t.lines;
        read = t.read;
        count_is = t.count_is ∙ sym number;
        are_lines = t.are_lines;
        are_events = subst (λ (f : LineFormat). AreEvents f 1 read_at_start t.lines events new.pending.items t.read) (sym format)
            (subst (λ (l : List Event). AreEvents old.format 1 read_at_start t.lines events l t.read) (sym pending) t.are_events);
      };
      keeps = keeps_same old new t.read format port awaited has.keeps;
    }

-- the line that was read
pub line_of : (now later : Option (List ℕ)) (line : List ℕ) → IfSome now (λ text. (line ≡ take_through 10 text) × (later ≡ Some (drop_through 10 text))) → IfSome now (λ text. line ≡ take_through 10 text)
line_of None later line read = tt
line_of (Some text) later line read = read.0

pub some_read : (n : ℕ) (is_empty : Bool) → is_empty ≡ (n == 0) → is_empty ≡ false → 0 < n
some_read zero is_empty is not = absurd (true≢false (sym is ∙ not))
some_read (suc n) is_empty is not = omega arith
