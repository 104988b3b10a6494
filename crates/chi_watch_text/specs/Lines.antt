-- lines of a text, and the events that they tell
use Rattle.std.specs.Prelude.{◌≡◌, ℕ, ◌+◌, ◌<◌, ◌==◌, ◌||◌, Bool, true, List, [], ◌∷◌, ◌++◌, All, IsSomeAnd, length, Ok}
use Rattle.std.specs.List.{list_all}
use Rattle.std.specs.Io.BufRead.{drop_through, take_through}
use Rattle.chi_events.specs.declared.event.Event.{Event}
use Rattle.chi_watch_text.specs.LineTold.{Read, Taken, line_taken, read_at_start, time_stated}
use Rattle.chi_watch_text.specs.declared.line_format.LineFormat.{LineFormat}

-- The text begins with these lines, each up to its line feed, and the rest follows. The last line of a text may have no line feed.
unfoldable pub AreLines : List ℕ → List (List ℕ) → List ℕ → Type 0
AreLines text [] rest = text ≡ rest
AreLines text (line ∷ lines) rest = (0 < length text) × (line ≡ take_through 10 text) × AreLines (drop_through 10 text) lines rest

-- what JSON has as white space: spaces, tabs, line feeds and carriage returns
abbrev pub is_space : ℕ → Bool
is_space b = b == 32 || b == 9 || b == 10 || b == 13

-- nothing else stands there
abbrev pub is_blank : List ℕ → Bool
is_blank bytes = list_all is_space bytes

-- Lines tell these events, and the last of them more, where the first has this number and this was read before it; that was read by
-- then.
unfoldable pub AreEvents : LineFormat → ℕ → Read → List (List ℕ) → List Event → List Event → Read → Type 0
AreEvents format number before [] events more read = (events ≡ []) × (more ≡ []) × (read ≡ before)
AreEvents format number before (line ∷ []) events more read = line_taken format before number line ≡ Ok (record { events = events ++ more; read = read })
AreEvents format number before (line ∷ next ∷ lines) events more read =
    (taken : Taken) × (line_taken format before number line ≡ Ok taken)
    × ((later : List Event) × (events ≡ taken.events ++ later) × AreEvents format (number + 1) taken.read (next ∷ lines) later more read)

-- the first lines of the text, so many of them, counted from 1, tell these events, and the last of them more; the rest follows
pub record AreTold (format : LineFormat) (text : List ℕ) (count : ℕ) (events more : List Event) (rest : List ℕ) : Type 0 where
  pub lines : List (List ℕ)
  pub read : Read
  pub count_is : length lines ≡ count
  pub are_lines : AreLines text lines rest
  pub are_events : AreEvents format 1 read_at_start lines events more read

-- all lines of the text do, and no others follow but blank ones
abbrev pub AreToldAll : LineFormat → List ℕ → List Event → Type 0
AreToldAll format text events = (count : ℕ) × (rest : List ℕ) × AreTold format text count events [] rest × (is_blank rest ≡ true)

-- they do, and then a line states a flit of a later time
abbrev pub StatesLater : LineFormat → List ℕ → List Event → Type 0
StatesLater format text events =
    (count : ℕ) × (rest : List ℕ) × AreTold format text count events [] rest × IsSomeAnd (time_stated format (count + 1) (take_through 10 rest)) (λ t. All (λ d. d.time < t) events)

-- they do, and then tell this one next
abbrev pub IsNext : LineFormat → List ℕ → List Event → Event → Type 0
IsNext format text events e = (count : ℕ) × (more : List Event) × (rest : List ℕ) × AreTold format text count (events ++ e ∷ []) more rest
