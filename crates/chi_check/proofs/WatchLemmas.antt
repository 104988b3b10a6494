-- what is written of what was found, and what flushing it leaves
use Rattle.std.proofs.Common.{◌≡◌, ℕ, Bool, true, false, List, [], ◌∷◌, All, Option, None, Some, Result, Ok, Err, IfOk, IfSome, flat_map, refl, sym, subst, ◌∙◌, append-nil, ◌⊎◌, inl, inr, arith}
use Rattle.std.specs.Io.KnownBytes.{Appends, Keeps}
use Rattle.std.proofs.lemmas.List.Elements.{All-head}
use Rattle.chi_script.specs.WriterBytes.{AppendsFront}
use Rattle.chi_script.proofs.WriterBytesLemmas.{taken_then}
use Rattle.chi_script.specs.declared.device.WriteFault.{WriteFault}
use Rattle.chi_script.specs.declared.device.WriteFault.TheVariants.{Failed}
use Rattle.chi_search.specs.Looks.{GrewBy}
use Rattle.chi_watch.specs.declared.ending.Ending.{Ending}
use Rattle.chi_watch.specs.declared.ending.FoundAtEnd.{FoundAtEnd}
use Rattle.chi_watch.specs.declared.undecided.UndecidedAtEnd.{UndecidedAtEnd}
use Rattle.chi_watch_text.specs.FoundGranule.{ending_verdict, found_verdict, listed_verdict, verdict_of}
use Rattle.chi_watch_text.specs.Outcomes.{IsFoundBy, IsLinesFault, IsOutcome, IsWatched, IsWatchingFault, WentBy}
use Rattle.chi_watch_text.specs.Required.{is_nothing, missing_of}
use Rattle.chi_watch_text.specs.Written.{closing_text, found_text, watched_text}
use Rattle.chi_watch_text.specs.declared.fault.LinesFault.{LinesFault}
use Rattle.chi_watch_text.specs.declared.fault.LinesFault.TheVariants as lines_fault
use Rattle.chi_watch_text.specs.declared.watched.Unfinished.{Unfinished}
use Rattle.chi_watch_text.specs.declared.options.WatchOptions.{WatchOptions}
use Rattle.chi_watch_text.specs.declared.watched.FoundGranule.{FoundGranule}
use Rattle.chi_watch_text.specs.declared.watched.Watched.{Watched}
use Rattle.chi_watch_text.proofs.ToldTexts.{front_then, whole_front}
use Rattle.chi_judge.specs.declared.standing.Standing.{Standing}
use Rattle.chi_judge.specs.declared.standing.Standing.TheVariants.{Explained, Unexplained, Undecided}
use Rattle.chi_check.specs.Check.{KeepsUnanswered}
use Rattle.chi_check.specs.CheckStatus.{IsAnswerStatus}
use Rattle.chi_check.specs.Cover.{written_of}
use Rattle.chi_check.specs.ProgramOutcome.{Ends, TaskOutcome}
use Rattle.chi_check.specs.Watch.{WatchOutcome, WritesClosing, found_before, stopped_by, verdict_status, watching}
use Rattle.chi_check.specs.declared.command.Task.{Task}
use Rattle.chi_check.specs.declared.command.Task.TheVariants.{Explain, Watch, Cover}
use Rattle.chi_check.specs.declared.fault.CheckFault.{CheckFault}
use Rattle.chi_check.specs.declared.fault.CheckFault.TheVariants as check_fault

-- a text that was written stays so when nothing follows
pub appends_kept : (old mid new : Option (List ℕ)) (text : List ℕ) → Appends old mid text → Keeps mid new → Appends old new text
appends_kept None mid new text appends keeps = tt
appends_kept (Some xs) None new text appends keeps = absurd appends
appends_kept (Some xs) (Some ys) None text appends keeps = absurd keeps
appends_kept (Some xs) (Some ys) (Some zs) text appends keeps = keeps ∙ appends

-- nothing was written of no granule
kept_none : (a b : Option (List ℕ)) → Appends a b [] → Keeps a b
kept_none None b appends = tt
kept_none (Some xs) None appends = absurd appends
kept_none (Some xs) (Some ys) appends = appends ∙ append-nil xs

-- a watch that has no answer: the granules that were found are written
module _ (options : WatchOptions) (old new : Option (List ℕ)) where
  pub before_it : (input : List ℕ) (f : LinesFault) (found : List FoundGranule) → IsLinesFault options.format input f → All (IsFoundBy options.format input options.around) found → Appends old new (flat_map (found_text options.answer) found)
      → WatchOutcome options input old new (Err (found_before f found))
  before_it input f [] is all appends = is
  before_it input f (g ∷ found) is all appends = (is, (g ∷ found, all, omega arith, appends))

  kept_before : (f : LinesFault) (found : List FoundGranule) → Appends old new (flat_map (found_text options.answer) found) → KeepsUnanswered old new (Err (found_before f found))
  kept_before f [] appends = kept_none old new appends
  kept_before f (g ∷ found) appends = tt

  -- or a prefix of them, where they could not be
  stops_in : (input : List ℕ) (f : LinesFault) (found : List FoundGranule) → IsWatchingFault options.format input f → All (IsFoundBy options.format input options.around) found → ((f ≡ lines_fault.Write → ⊥) → Appends old new (flat_map (found_text options.answer) found))
      → AppendsFront old new (flat_map (found_text options.answer) found) → WatchOutcome options input old new (Err (stopped_by f found))
  stops_in input lines_fault.Write found is all kept front = inr (found, all, front)
  stops_in input lines_fault.Read found is all kept front = let not : lines_fault.Read ≡ lines_fault.Write → ⊥ = λ same. cc in before_it input lines_fault.Read found (is not) all (kept not)
  stops_in input (lines_fault.Line n f) found is all kept front =
      let not : lines_fault.Line n f ≡ lines_fault.Write → ⊥ = λ same. cc in before_it input (lines_fault.Line n f) found (is not) all (kept not)
  stops_in input (lines_fault.Event n f) found is all kept front =
      let not : lines_fault.Event n f ≡ lines_fault.Write → ⊥ = λ same. cc in before_it input (lines_fault.Event n f) found (is not) all (kept not)
  stops_in input lines_fault.TooManyLines found is all kept front =
      let not : lines_fault.TooManyLines ≡ lines_fault.Write → ⊥ = λ same. cc in before_it input lines_fault.TooManyLines found (is not) all (kept not)
  stops_in input lines_fault.Memory found is all kept front = let not : lines_fault.Memory ≡ lines_fault.Write → ⊥ = λ same. cc in before_it input lines_fault.Memory found (is not) all (kept not)

  pub stopped : (remaining : Option (List ℕ)) (u : Unfinished) → IfSome remaining (λ input. IsOutcome options.format input options.keep_going options.around (Err u)) → ((u.fault ≡ lines_fault.Write → ⊥) → Appends old new (flat_map (found_text options.answer) u.found.items))
      → AppendsFront old new (flat_map (found_text options.answer) u.found.items) → IfSome remaining (λ input. WatchOutcome options input old new (Err (stopped_by u.fault u.found.items)))
  stopped None u is kept front = tt
  stopped (Some input) u (fault, all) kept front = stops_in input u.fault u.found.items fault all kept front

  pub unanswered : (f : LinesFault) (found : List FoundGranule) → ((f ≡ lines_fault.Write → ⊥) → Appends old new (flat_map (found_text options.answer) found)) → KeepsUnanswered old new (Err (stopped_by f found))
  unanswered lines_fault.Write found kept = tt
  unanswered lines_fault.Read found kept = kept_before lines_fault.Read found (kept (λ (same : lines_fault.Read ≡ lines_fault.Write). cc))
  unanswered (lines_fault.Line n f) found kept = kept_before (lines_fault.Line n f) found (kept (λ (same : lines_fault.Line n f ≡ lines_fault.Write). cc))
  unanswered (lines_fault.Event n f) found kept = kept_before (lines_fault.Event n f) found (kept (λ (same : lines_fault.Event n f ≡ lines_fault.Write). cc))
  unanswered lines_fault.TooManyLines found kept = kept_before lines_fault.TooManyLines found (kept (λ (same : lines_fault.TooManyLines ≡ lines_fault.Write). cc))
  unanswered lines_fault.Memory found kept = kept_before lines_fault.Memory found (kept (λ (same : lines_fault.Memory ≡ lines_fault.Write). cc))

-- what is said once all is watched was written after the granules that were found, or what a fault leaves of it
module _ (options : WatchOptions) (old mid new : Option (List ℕ)) (watched : Watched) (told : Appends old mid (flat_map (found_text options.answer) watched.found.items)) where
  no_memory : (input : List ℕ) (fault : CheckFault) → IsWatched options.format input options.keep_going options.around watched → fault ≡ stopped_by lines_fault.Memory watched.found.items → Keeps mid new
      → WatchOutcome options input old new (Err fault)
  no_memory input fault is same keeps =
      subst (λ (f : CheckFault). WatchOutcome options input old new (Err f)) (sym same)
      (before_it options old new input lines_fault.Memory watched.found.items tt is.found (appends_kept old mid new (flat_map (found_text options.answer) watched.found.items) told keeps))

  closed_in : (input : List ℕ) (result : Result ℕ CheckFault) → IsWatched options.format input options.keep_going options.around watched → WritesClosing options watched mid new result → WatchOutcome options input old new result
  closed_in input (Ok status) is (status_is, appends) = (watched, is, status_is, taken_then old mid new (flat_map (found_text options.answer) watched.found.items) (closing_text options watched) told appends)
  closed_in input (Err (check_fault.Write fault)) is front = inl (watched, is, front_then old mid new (flat_map (found_text options.answer) watched.found.items) (closing_text options watched) told front)
  closed_in input (Err fault) is (same, keeps) = no_memory input fault is same keeps

  pub closed : (remaining : Option (List ℕ)) (result : Result ℕ CheckFault) → IfSome remaining (λ input. IsWatched options.format input options.keep_going options.around watched) → WritesClosing options watched mid new result
      → IfSome remaining (λ input. WatchOutcome options input old new result)
  closed None result is writes = tt
  closed (Some input) result is writes = closed_in input result is writes

  kept_memory : (fault : CheckFault) → fault ≡ stopped_by lines_fault.Memory watched.found.items → Keeps mid new → KeepsUnanswered old new (Err fault)
  kept_memory fault same keeps =
      subst (λ (f : CheckFault). KeepsUnanswered old new (Err f)) (sym same)
      (kept_before options old new lines_fault.Memory watched.found.items (appends_kept old mid new (flat_map (found_text options.answer) watched.found.items) told keeps))

  pub closed_unanswered : (result : Result ℕ CheckFault) → WritesClosing options watched mid new result → KeepsUnanswered old new result
  closed_unanswered (Ok status) writes = tt
  closed_unanswered (Err (check_fault.Write fault)) writes = tt
  closed_unanswered (Err fault) (same, keeps) = kept_memory fault same keeps

-- the status of what is found is one of an answer
pub watched_status : (options : WatchOptions) (old new : Option (List ℕ)) (watched : Watched) (result : Result ℕ CheckFault) → WritesClosing options watched old new result → IfOk result IsAnswerStatus
watched_status options old new watched (Ok status) (is, appends) = subst IsAnswerStatus (sym is) (by_verdict (verdict_of watched) (is_nothing (missing_of options.required watched)))
  where
    by_verdict : (v : Standing) (complete : Bool) → IsAnswerStatus (verdict_status v complete)
    by_verdict Explained true = inl refl
    by_verdict Explained false = inr (inl refl)
    by_verdict Unexplained complete = inr (inl refl)
    by_verdict Undecided complete = inr (inr refl)
watched_status options old new watched (Err fault) writes = tt

-- the status of what is not decided tells that the budget was spent
pub spent_at_six : {P : Type 0} (looked : P → ℕ → Type 0) (old new : P) (options : WatchOptions) (before after : Option (List ℕ)) (watched : Watched) (result : Result ℕ CheckFault)
    → WritesClosing options watched before after result → WentBy looked old new options.budget watched → IfOk result (λ status. status ≡ 6 → GrewBy looked old new options.budget)
spent_at_six looked old new options before after watched (Err fault) writes went = tt
spent_at_six looked old new options before after watched (Ok status) (is, appends) went =
    λ six. by_found watched.found.items watched.ending went (is_nothing (missing_of options.required watched)) (sym is ∙ six)
  where
    by_lists : (un : List FoundAtEnd) (dec : List UndecidedAtEnd) → All (λ (u : UndecidedAtEnd). GrewBy looked old new options.budget) dec → (complete : Bool) → verdict_status (listed_verdict un dec) complete ≡ 6 → GrewBy looked old new options.budget
    by_lists (g ∷ un) dec all complete is_six = cc
    by_lists [] (u ∷ dec) all complete is_six = All-head (λ (it : UndecidedAtEnd). GrewBy looked old new options.budget) u dec all
    by_lists [] [] all true is_six = cc
    by_lists [] [] all false is_six = cc

    by_ending : (o : Option Ending) → IfSome o (λ ending. All (λ g. GrewBy looked old new options.budget) ending.undecided.items) → (complete : Bool) → verdict_status (ending_verdict o) complete ≡ 6 → GrewBy looked old new options.budget
    by_ending None all true is_six = cc
    by_ending None all false is_six = cc
    by_ending (Some ending) all complete is_six = by_lists ending.unexplained.items ending.undecided.items all complete is_six

    by_found : (found : List FoundGranule) (o : Option Ending) → IfSome o (λ ending. All (λ g. GrewBy looked old new options.budget) ending.undecided.items) → (complete : Bool)
        → verdict_status (found_verdict found o) complete ≡ 6 → GrewBy looked old new options.budget
    by_found (f ∷ found) o all complete is_six = cc
    by_found [] o all complete is_six = by_ending o all complete is_six

-- the outcome of a task stays so when its text is flushed, also where the flush fails
module _ (IsCut : Option ℕ → Type 0) (holds : List ℕ → List ℕ → Type 0) where
  flushed : (task : Task) (remaining old mid new : Option (List ℕ)) (status : ℕ) → IfSome remaining (λ input. TaskOutcome IsCut holds task input old mid (Ok status)) → Keeps mid new
      → IfSome remaining (λ input. TaskOutcome IsCut holds task input old new (Ok status))
  flushed task None old mid new status outcome keeps = tt
  flushed (Explain options file) (Some input) old mid new status (answer, text, answers, status_is, appends) keeps =
      (answer, text, answers, status_is, appends_kept old mid new text appends keeps)
  flushed (Watch options file) (Some input) old mid new status (watched, is, status_is, appends) keeps =
      (watched, is, status_is, appends_kept old mid new (watched_text (watching options) watched) appends keeps)
  flushed (Cover options) (Some input) old mid new status (plan, counts, has, status_is, appends) keeps =
      (plan, counts, has, status_is, appends_kept old mid new (written_of options plan counts) appends keeps)

  flush_failed : (task : Task) (remaining old mid new : Option (List ℕ)) (status : ℕ) (fault : WriteFault) → IfSome remaining (λ input. TaskOutcome IsCut holds task input old mid (Ok status))
      → Keeps mid new → IfSome remaining (λ input. TaskOutcome IsCut holds task input old new (Err (check_fault.Write fault)))
  flush_failed task None old mid new status fault outcome keeps = tt
  flush_failed (Explain options file) (Some input) old mid new status fault (answer, text, answers, status_is, appends) keeps =
      (answer, text, answers, whole_front old new text (appends_kept old mid new text appends keeps))
  flush_failed (Watch options file) (Some input) old mid new status fault (watched, is, status_is, appends) keeps =
      inl (watched, is, whole_front old new (watched_text (watching options) watched) (appends_kept old mid new (watched_text (watching options) watched) appends keeps))
  flush_failed (Cover options) (Some input) old mid new status fault (plan, counts, has, status_is, appends) keeps =
      (plan, counts, has, whole_front old new (written_of options plan counts) (appends_kept old mid new (written_of options plan counts) appends keeps))

  -- a task whose text was flushed, or could not be, came to an outcome of this status
  pub ended : (task : Task) (remaining old mid new : Option (List ℕ)) (done status : ℕ) → IfSome remaining (λ input. TaskOutcome IsCut holds task input old mid (Ok done)) → Keeps mid new
      → IsAnswerStatus done → (status ≡ done) ⊎ (status ≡ 5) → Ends IsCut holds task remaining old new status
  ended task remaining old mid new done status outcome keeps answers (inl is) =
      (Ok done, tt, answers, flushed task remaining old mid new done outcome keeps, is)
  ended task remaining old mid new done status outcome keeps answers (inr is) =
      (Err (check_fault.Write Failed), tt, tt, flush_failed task remaining old mid new done Failed outcome keeps, is)
