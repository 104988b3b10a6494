-- the lines that a watch saves: those of the granule that is listed first
use Rattle.std.specs.Prelude.{◌≡◌, ℕ, ◌⊎◌, ◌++◌, List, [], ◌∷◌, Option, None, Some, IfSome}
use Rattle.std.specs.Io.KnownBytes.{Appends}
use Rattle.chi_events.specs.declared.event.Event.{Event}
use Rattle.chi_watch.specs.declared.ending.Ending.{Ending}
use Rattle.chi_watch.specs.declared.ending.FoundAtEnd.{FoundAtEnd}
use Rattle.chi_watch_text.specs.Outcomes.{IsWatched}
use Rattle.chi_watch_text.specs.Saved.{IsSaved, IsSavingFault, lines_about, no_number}
use Rattle.chi_watch_text.specs.Written.{watched_text}
use Rattle.chi_watch_text.specs.declared.fault.LinesFault.{LinesFault}
use Rattle.chi_watch_text.specs.declared.line_format.LineFormat.{LineFormat}
use Rattle.chi_watch_text.specs.declared.line_format.LineFormat.TheVariants.{Events}
use Rattle.chi_watch_text.specs.declared.watched.FoundGranule.{FoundGranule}
use Rattle.chi_watch_text.specs.declared.watched.Watched.{Watched}
use Rattle.chi_check.specs.Watch.{stopped_by, watch_status, watching}
use Rattle.chi_check.specs.declared.fault.CheckFault.{CheckFault}
use Rattle.chi_check.specs.declared.fault.CheckFault.TheVariants as check_fault
use Rattle.chi_check.specs.declared.options.WatchingOptions.{WatchingOptions}

-- of the granules that no order explains the one that is listed first: one that was found by a line, or else at the end
abbrev pub first_at_end : List FoundAtEnd → Option ℕ
first_at_end [] = None
first_at_end (f ∷ unexplained) = Some f.granule

abbrev pub first_of_ending : Option Ending → Option ℕ
first_of_ending None = None
first_of_ending (Some ending) = first_at_end ending.unexplained.items

abbrev pub first_found : List FoundGranule → Option Ending → Option ℕ
first_found (f ∷ found) ending = Some f.granule
first_found [] ending = first_of_ending ending

abbrev pub first_listed : Watched → Option ℕ
first_listed w = first_found w.found.items w.ending

-- where there is a granule its lines were put at the path, and where there is none nothing was
abbrev pub IsPutOf : {P : Type 0} → (P → List ℕ → List ℕ → Type 0) → Option ℕ → (ℕ → List ℕ → Type 0) → List ℕ → P → P → Type 0
IsPutOf has_put None are_lines path old new = new ≡ old
IsPutOf has_put (Some g) are_lines path old new = (lines : List ℕ) × are_lines g lines × has_put new path lines

-- of lines that are events those that tell of a granule; where they state flits, all
abbrev pub AreSaved : LineFormat → List ℕ → ℕ → List ℕ → Type 0
AreSaved Events lines g saved = IsSaved lines g saved
AreSaved _ lines g saved = saved ≡ lines

-- the same of the granule that is listed first, and the lines that are kept
abbrev pub IsFirstPut : {P : Type 0} → (P → List ℕ → List ℕ → Type 0) → LineFormat → Watched → List ℕ → P → P → Type 0
IsFirstPut has_put format w path old new = IfSome w.kept (λ kept. IsPutOf has_put (first_listed w) (AreSaved format kept.items) path old new)

-- where no granule is listed nothing was put, and where one is more may have been put than before
abbrev pub PutsMore : {P : Type 0} → (P → List ℕ → List ℕ → Type 0) → Option ℕ → P → P → Type 0
PutsMore has_put None old new = new ≡ old
PutsMore has_put (Some g) old new = (path text : List ℕ) → has_put old path text → has_put new path text

-- why they were not put: the path could not be written, or they were not found among the lines that are kept
abbrev pub IsUnsaved : LineFormat → Watched → List ℕ → CheckFault → Type 0
IsUnsaved format w kept fault = (fault ≡ check_fault.Unsaved) ⊎ ((format ≡ Events) × ((f : LinesFault) × (fault ≡ stopped_by f w.found.items) × IsSavingFault kept f))

-- of the lines that were read of an input, each with its event, those that tell of a granule; of flits all that this rest follows
abbrev pub AreSavedOf : LineFormat → List ℕ → List ℕ → List (List ℕ) → List Event → ℕ → List ℕ → Type 0
AreSavedOf Events input rest lines events g saved = saved ≡ lines_about g no_number lines events
AreSavedOf _ input rest lines events g saved = input ≡ saved ++ rest

-- Where lines are to be saved, those that were read and tell of the granule that is listed first, or all flits, were put at the path,
-- before what is said once all is watched was written; where no granule is listed nothing was put.
abbrev pub SavesFirst : {P : Type 0} → (P → List ℕ → List ℕ → Type 0) → WatchingOptions → List ℕ → Option (List ℕ) → Option (List ℕ) → ℕ → P → P → Type 0
SavesFirst has_put options input old new status before after =
    IfSome options.save (λ path. (watched : Watched) × (is : IsWatched options.format input options.keep_going options.around watched) × (status ≡ watch_status (watching options) watched)
    × Appends old new (watched_text (watching options) watched)
    × IsPutOf has_put (first_listed watched) (AreSavedOf options.format input is.rest is.told.lines is.events) path.now before after)
