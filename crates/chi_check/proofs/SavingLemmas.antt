-- the lines that are kept are those that were read, and those of the granule that is listed first are put
use Rattle.std.proofs.Common.{◌≡◌, ◌∙◌, ℕ, ◌++◌, Bool, List, [], Option, None, Some, Result, Ok, Err, IfOk, IfSome, IsSomeAnd, inl, inr, true, true≢false, refl, sym, ap, subst}
use Rattle.std.proofs.lemmas.Option.{IfSome_then}
use Rattle.std.proofs.lemmas.Result.{IfOk-weaker}
use Rattle.std.specs.Borrow.{Bor}
use Rattle.std.specs.Io.KnownBytes.{Appends}
use Rattle.std.specs.Prelude.{◌||◌, Vec, flat_map, is_some}
use Rattle.std.specs.declared.alloc.Global.{Global}
use Rattle.chi_script.proofs.WriterBytesLemmas.{taken_then}
use Rattle.chi_watch_text.specs.Kept.{AreKept}
use Rattle.chi_watch_text.specs.Outcomes.{IsWatched}
use Rattle.chi_watch_text.specs.LineTold.{read_at_start}
use Rattle.chi_watch_text.specs.Lines.{AreEvents}
use Rattle.chi_watch_text.specs.Saved.{AreWhole, IsOfNoLine}
use Rattle.chi_watch_text.specs.Written.{closing_text, found_text, watched_text}
use Rattle.chi_watch_text.specs.declared.fault.LinesFault.{LinesFault}
use Rattle.chi_watch_text.specs.declared.fault.LinesFault.TheVariants as lines_fault
use Rattle.chi_watch_text.specs.declared.line_format.LineFormat.{LineFormat}
use Rattle.chi_watch_text.specs.declared.line_format.LineFormat.TheVariants.{Events, Flits, PointedFlits}
use Rattle.chi_watch_text.specs.declared.options.WatchOptions.{WatchOptions}
use Rattle.chi_watch_text.specs.declared.watched.Watched.{Watched}
use Rattle.chi_watch_text.proofs.EachEvent.{each_event}
use Rattle.chi_watch_text.proofs.KeptLines.{lines_kept}
use Rattle.chi_check.specs.Check.{KeepsUnanswered}
use Rattle.chi_check.specs.Saving.{AreSaved, AreSavedOf, IsFirstPut, IsPutOf, IsUnsaved, PutsMore, SavesFirst, first_listed}
use Rattle.chi_check.specs.Watch.{WatchOutcome, WritesClosing, stopped_by, watch_status, watching}
use Rattle.chi_check.specs.declared.fault.CheckFault.{CheckFault}
use Rattle.chi_check.specs.declared.options.WatchingOptions.{WatchingOptions}
use Rattle.chi_check.proofs.WatchLemmas.{before_it, unanswered}

-- where each line is an event, what is kept is the lines that were read, and each tells its event
whole : (format : LineFormat) (input : List ℕ) (going : Bool) (shown : ℕ) (w : Watched) (is : IsWatched format input going shown w) (kept : List ℕ) → format ≡ Events → input ≡ kept ++ is.rest
    → AreWhole kept is.told.lines is.events
whole format input going shown w is kept events all = record {
  are_lines = lines_kept input is.told.lines is.rest kept is.told.are_lines all;
  are_events = each_event 1 read_at_start is.told.lines is.events is.told.read (subst (λ (f : LineFormat). AreEvents f 1 read_at_start is.told.lines is.events [] is.told.read) events is.told.are_events);
}

-- lines that were not put: the granules that were found are written
module _ (options : WatchOptions) (old new : Option (List ℕ)) (w : Watched) (told : Appends old new (flat_map (found_text options.answer) w.found.items)) where
  of_no_line : (input : List ℕ) (f : LinesFault) → IsWatched options.format input options.keep_going options.around w → IsOfNoLine f → WatchOutcome options input old new (Err (stopped_by f w.found.items))
  of_no_line input lines_fault.Read is none = before_it options old new input lines_fault.Read w.found.items tt is.found told
  of_no_line input (lines_fault.Line n f) is none = absurd none
  of_no_line input (lines_fault.Event n f) is none = absurd none
  of_no_line input lines_fault.TooManyLines is none = before_it options old new input lines_fault.TooManyLines w.found.items tt is.found told
  of_no_line input lines_fault.Write is none = absurd none
  of_no_line input lines_fault.Memory is none = before_it options old new input lines_fault.Memory w.found.items tt is.found told

  unsaved_in : (input : List ℕ) (kept : Option (Vec ℕ Global)) (fault : CheckFault) (is : IsWatched options.format input options.keep_going options.around w) → AreKept input kept is.rest
      → IsSomeAnd kept (λ k. IsUnsaved options.format w k.items fault) → WatchOutcome options input old new (Err fault)
  unsaved_in input None fault is are why = absurd why
  unsaved_in input (Some kept) fault is are (inl same) = subst (λ (f : CheckFault). WatchOutcome options input old new (Err f)) (sym same) (w, is, told)
  unsaved_in input (Some kept) fault is are (inr (events, (f, same, saving))) =
      subst (λ (it : CheckFault). WatchOutcome options input old new (Err it)) (sym same)
      (of_no_line input f is (saving is.told.lines is.events (whole options.format input options.keep_going options.around w is kept.items events are)))

  pub unsaved : (remaining : Option (List ℕ)) (fault : CheckFault) → IfSome remaining (λ input. IsWatched options.format input options.keep_going options.around w) → IsSomeAnd w.kept (λ k. IsUnsaved options.format w k.items fault)
      → IfSome remaining (λ input. WatchOutcome options input old new (Err fault))
  unsaved None fault is why = tt
  unsaved (Some input) fault is why = unsaved_in input w.kept fault is is.kept why

  pub unsaved_unanswered : (kept : Option (Vec ℕ Global)) (fault : CheckFault) → IsSomeAnd kept (λ k. IsUnsaved options.format w k.items fault) → KeepsUnanswered old new (Err fault)
  unsaved_unanswered None fault why = absurd why
  unsaved_unanswered (Some kept) fault (inl same) = subst (λ (f : CheckFault). KeepsUnanswered old new (Err f)) (sym same) tt
  unsaved_unanswered (Some kept) fault (inr (events, (f, same, saving))) =
      subst (λ (it : CheckFault). KeepsUnanswered old new (Err it)) (sym same) (unanswered options old new f w.found.items (λ _. told))

-- after Ok all was watched, and this is its status and the text that was written
pub whole_told : (options : WatchingOptions) (how : WatchOptions) (remaining old mid new : Option (List ℕ)) (w : Watched) (result : Result ℕ CheckFault) → how ≡ watching options
    → IfSome remaining (λ input. IsWatched how.format input how.keep_going how.around w) → Appends old mid (flat_map (found_text how.answer) w.found.items) → WritesClosing how w mid new result
    → IfOk result (λ status. IfSome remaining (λ input. IsWatched options.format input options.keep_going options.around w × (status ≡ watch_status (watching options) w)
    × Appends old new (watched_text (watching options) w)))
whole_told options how remaining old mid new w (Err fault) how_is is told writes = tt
whole_told options how remaining old mid new w (Ok status) how_is is told writes =
    let both = subst (λ (h : WatchOptions). (status ≡ watch_status h w) × Appends mid new (closing_text h w)) how_is writes in
    let first = subst (λ (h : WatchOptions). Appends old mid (flat_map (found_text h.answer) w.found.items)) how_is told in
    let text = taken_then old mid new (flat_map (found_text options.answer) w.found.items) (closing_text (watching options) w) first both.1 in
    IfSome_then remaining is (λ input it. (subst (λ (h : WatchOptions). IsWatched h.format input h.keep_going h.around w) how_is it, both.0, text))

-- what was put at the path
module _ {P : Type 0} (has_put : P → List ℕ → List ℕ → Type 0) where
  pub put_weaker : (granule : Option ℕ) (A B : ℕ → List ℕ → Type 0) (path : List ℕ) (before after : P) → ((g : ℕ) (lines : List ℕ) → A g lines → B g lines)
      → IsPutOf has_put granule A path before after → IsPutOf has_put granule B path before after
  put_weaker None A B path before after weaker same = same
  put_weaker (Some g) A B path before after weaker (lines, is, put) = (lines, weaker g lines is, put)

  saves : (format : LineFormat) (input : List ℕ) (going : Bool) (shown : ℕ) (w : Watched) (is : IsWatched format input going shown w) (kept : List ℕ) → input ≡ kept ++ is.rest → (g : ℕ) (lines : List ℕ)
      → AreSaved format kept g lines → AreSavedOf format input is.rest is.told.lines is.events g lines
  saves Events input going shown w is kept are g lines saved = saved is.told.lines is.events (whole Events input going shown w is kept refl are)
  saves (Flits errors) input going shown w is kept are g lines saved = are ∙ ap (λ l. l ++ is.rest) (sym saved)
  saves (PointedFlits errors) input going shown w is kept are g lines saved = are ∙ ap (λ l. l ++ is.rest) (sym saved)

  first_put : (format : LineFormat) (input : List ℕ) (going : Bool) (shown : ℕ) (w : Watched) (is : IsWatched format input going shown w) (kept : Option (Vec ℕ Global)) (path : List ℕ) (before after : P) → is_some kept ≡ true
      → AreKept input kept is.rest → IfSome kept (λ k. IsPutOf has_put (first_listed w) (AreSaved format k.items) path before after)
      → IsPutOf has_put (first_listed w) (AreSavedOf format input is.rest is.told.lines is.events) path before after
  first_put format input going shown w is None path before after some are put = absurd (true≢false (sym some))
  first_put format input going shown w is (Some k) path before after some are put =
      put_weaker (first_listed w) (AreSaved format k.items) (AreSavedOf format input is.rest is.told.lines is.events) path before after
      (saves format input going shown w is k.items are) put

  -- where more was put after it, or before it
  put_then : (granule : Option ℕ) (A : ℕ → List ℕ → Type 0) (path : List ℕ) (before between after : P) → IsPutOf has_put granule A path before between
      → PutsMore has_put granule between after → IsPutOf has_put granule A path before after
  put_then None A path before between after same more = more ∙ same
  put_then (Some g) A path before between after (lines, is, put) more = (lines, is, more path lines put)

  pub more_then : (granule : Option ℕ) (A : ℕ → List ℕ → Type 0) (path : List ℕ) (before between after : P) → PutsMore has_put granule before between
      → IsPutOf has_put granule A path between after → IsPutOf has_put granule A path before after
  more_then None A path before between after more same = same ∙ more
  more_then (Some g) A path before between after more put = put

  saved_in : (options : WatchingOptions) (input : List ℕ) (old new : Option (List ℕ)) (status : ℕ) (w : Watched) (before between after : P) (save : Option (Bor (List ℕ))) (shows : Bool)
      → (is : IsWatched options.format input options.keep_going options.around w) → is_some w.kept ≡ (is_some save || shows) → status ≡ watch_status (watching options) w
      → Appends old new (watched_text (watching options) w) → IfSome save (λ path. IsFirstPut has_put options.format w path.now before between) → PutsMore has_put (first_listed w) between after
      → IfSome save (λ path. (watched : Watched) × (it : IsWatched options.format input options.keep_going options.around watched) × (status ≡ watch_status (watching options) watched)
      × Appends old new (watched_text (watching options) watched)
      × IsPutOf has_put (first_listed watched) (AreSavedOf options.format input it.rest it.told.lines it.events) path.now before after)
  saved_in options input old new status w before between after None shows is keeps status_is appends put more = tt
  saved_in options input old new status w before between after (Some path) shows is keeps status_is appends put more =
      let first = first_put options.format input options.keep_going options.around w is w.kept path.now before between keeps is.kept put in
      (w, is, status_is, appends, put_then (first_listed w) (AreSavedOf options.format input is.rest is.told.lines is.events) path.now before between after first more)

  pub saved : (options : WatchingOptions) (how : WatchOptions) (remaining old mid new : Option (List ℕ)) (w : Watched) (before between after : P) (result : Result ℕ CheckFault)
      → how ≡ watching options → IfSome remaining (λ input. IsWatched how.format input how.keep_going how.around w) → is_some w.kept ≡ how.keep_lines → Appends old mid (flat_map (found_text how.answer) w.found.items)
      → WritesClosing how w mid new result → IfSome options.save (λ path. IsFirstPut has_put options.format w path.now before between) → PutsMore has_put (first_listed w) between after
      → IfOk result (λ status. IfSome remaining (λ input. SavesFirst has_put options input old new status before after))
  saved options how remaining old mid new w before between after result how_is is keeps told writes put more =
      let kept = keeps ∙ ap (λ (h : WatchOptions). h.keep_lines) how_is in
      IfOk-weaker result _ _
      (λ status whole. IfSome_then remaining whole
      (λ input all. saved_in options input old new status w before between after options.save (is_some options.html) all.0 kept all.1 all.2 put more))
      (whole_told options how remaining old mid new w result how_is is told writes)
