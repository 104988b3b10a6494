-- what a watch does: what it answers to the events that its input tells
use Rattle.std.specs.Prelude.{◌≡◌, ℕ, ◌+◌, ◌<◌, ◌≤◌, ◌⊎◌, ◌||◌, Bool, if◌then◌else◌, List, [], ◌∷◌, All, Option, Result, Ok, Err, flat_map, is_some, length}
use Rattle.std.specs.Io.KnownBytes.{Appends, Keeps}
use Rattle.chi_script.specs.WriterBytes.{AppendsFront}
use Rattle.chi_script.specs.declared.device.WriteFault.TheVariants.{Failed}
use Rattle.chi_watch_text.specs.FoundGranule.{verdict_of}
use Rattle.chi_watch_text.specs.Outcomes.{IsFoundBy, IsLinesFault, IsWatched}
use Rattle.chi_watch_text.specs.Required.{is_nothing, missing_of}
use Rattle.chi_watch_text.specs.Written.{closing_text, found_text, watched_text}
use Rattle.chi_watch_text.specs.declared.fault.LinesFault.{LinesFault}
use Rattle.chi_watch_text.specs.declared.fault.LinesFault.TheVariants as lines_fault
use Rattle.chi_watch_text.specs.declared.options.WatchOptions.{WatchOptions}
use Rattle.chi_watch_text.specs.declared.watched.FoundGranule.{FoundGranule}
use Rattle.chi_watch_text.specs.declared.watched.Watched.{Watched}
use Rattle.chi_search.specs.Looks.{Search, for_verdict}
use Rattle.chi_judge.specs.declared.standing.Standing.{Standing}
use Rattle.chi_judge.specs.declared.standing.Standing.TheVariants.{Explained, Unexplained, Undecided}
use Rattle.chi_check.specs.declared.fault.CheckFault.{CheckFault}
use Rattle.chi_check.specs.declared.fault.CheckFault.TheVariants as check_fault
use Rattle.chi_check.specs.declared.fault.SourceFault.TheVariants as source_fault
use Rattle.chi_check.specs.declared.options.WatchingOptions.{WatchingOptions}

-- how the lines are watched: they are kept where some are to be saved, or a page is to be made of them
abbrev pub watching : WatchingOptions → WatchOptions
watching options = record { format = options.format; answer = options.answer; budget = options.budget; around = options.around; keep_going = options.keep_going; keep_lines = is_some options.save || is_some options.html; required = options.required }

-- 0 where all is explained and nothing that is required is missing, 1 where something is or a granule is not explained, 6 where it
-- is undecided whether one is
abbrev pub verdict_status : Standing → Bool → ℕ
verdict_status Explained complete = if complete then 0 else 1
verdict_status Unexplained complete = 1
verdict_status Undecided complete = 6

abbrev pub watch_status : WatchOptions → Watched → ℕ
watch_status options w = verdict_status (verdict_of w) (is_nothing (missing_of options.required w))

-- why a watch has no answer, by whether granules were found before
abbrev pub found_before : LinesFault → List FoundGranule → CheckFault
found_before fault [] = check_fault.Input (source_fault.Events fault)
found_before fault (f ∷ found) = check_fault.Unfinished fault

-- the same, or that they could not be told
abbrev pub stopped_by : LinesFault → List FoundGranule → CheckFault
stopped_by lines_fault.Write found = check_fault.Write Failed
stopped_by fault found = found_before fault found

-- what is said once all is watched was written, and this is the status of what is found; or what each fault leaves written
abbrev pub WritesClosing : WatchOptions → Watched → Option (List ℕ) → Option (List ℕ) → Result ℕ CheckFault → Type 0
WritesClosing options watched old new (Ok status) = (status ≡ watch_status options watched) × Appends old new (closing_text options watched)
WritesClosing options watched old new (Err (check_fault.Write fault)) = AppendsFront old new (closing_text options watched)
WritesClosing options watched old new (Err fault) = (fault ≡ stopped_by lines_fault.Memory watched.found.items) × Keeps old new

-- After Ok the text of what is found of the events was written, and this is its status. What each fault means, and what was
-- written then: nothing but the granules that were found before a line that is not taken, or by lines where some could not be
-- saved or no page could be put, and where the writer failed.
abbrev pub WatchOutcome : WatchOptions → List ℕ → Option (List ℕ) → Option (List ℕ) → Result ℕ CheckFault → Type 0
WatchOutcome options input old new (Ok status) =
    (watched : Watched) × IsWatched options.format input options.keep_going options.around watched × (status ≡ watch_status options watched) × Appends old new (watched_text options watched)
WatchOutcome options input old new (Err (check_fault.Input (source_fault.Events fault))) = IsLinesFault options.format input fault
WatchOutcome options input old new (Err (check_fault.Unfinished fault)) =
    IsLinesFault options.format input fault × ((found : List FoundGranule) × All (IsFoundBy options.format input options.around) found × (0 < length found) × Appends old new (flat_map (found_text options.answer) found))
WatchOutcome options input old new (Err check_fault.Unsaved) = (watched : Watched) × IsWatched options.format input options.keep_going options.around watched × Appends old new (flat_map (found_text options.answer) watched.found.items)
WatchOutcome options input old new (Err check_fault.Unshown) = (watched : Watched) × IsWatched options.format input options.keep_going options.around watched × Appends old new (flat_map (found_text options.answer) watched.found.items)
WatchOutcome options input old new (Err (check_fault.Input source_fault.Memory)) = Unit {0}
WatchOutcome options input old new (Err (check_fault.Write fault)) =
    ((watched : Watched) × IsWatched options.format input options.keep_going options.around watched × AppendsFront old new (watched_text options watched))
    ⊎ ((found : List FoundGranule) × All (IsFoundBy options.format input options.around) found × AppendsFront old new (flat_map (found_text options.answer) found))
WatchOutcome options input old new (Err fault) = ⊥

-- at least so many states were looked at, where that was known of those before, which were for a verdict
abbrev pub WatchedFor : {P : Type 0} → (P → ℕ → Type 0) → (Search → P → ℕ → Type 0) → P → P → ℕ → Type 0
WatchedFor states looked old new budget = (n : ℕ) → looked for_verdict old n → (m : ℕ) × (n + budget ≤ m) × states new m
