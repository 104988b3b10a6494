-- the page is made of the lines that were read, and it is that of the granule that is listed first
use Rattle.std.proofs.Common.{◌≡◌, ◌∙◌, ℕ, Bool, true, false, List, Option, None, Some, Result, Err, IfOk, IfSome, inl, inr, true≢false, refl, sym, ap, subst, arith}
use Rattle.std.proofs.lemmas.Option.{IfSome_then}
use Rattle.std.proofs.lemmas.Result.{IfOk-weaker}
use Rattle.std.specs.Borrow.{Bor}
use Rattle.std.specs.Io.KnownBytes.{Appends}
use Rattle.std.specs.Prelude.{◌||◌, Vec, flat_map, is_some}
use Rattle.std.specs.declared.alloc.Global.{Global}
use Rattle.chi_reading.specs.TraceText.{RecordedValue}
use Rattle.chi_search.specs.Looks.{Grew, Search}
use Rattle.chi_watch_text.specs.Kept.{AreKept}
use Rattle.chi_watch_text.specs.Outcomes.{IsWatched}
use Rattle.chi_watch_text.specs.Written.{found_text, watched_text}
use Rattle.chi_watch_text.specs.declared.fault.LinesFault.TheVariants as lines_fault
use Rattle.chi_watch_text.specs.declared.options.WatchOptions.{WatchOptions}
use Rattle.chi_watch_text.specs.declared.watched.Watched.{Watched}
use Rattle.chi_check.specs.Check.{HasTrace, KeepsUnanswered, judged}
use Rattle.chi_check.specs.Pages.{IsReported}
use Rattle.chi_check.specs.Saving.{IsPutOf, PutsMore, first_listed}
use Rattle.chi_check.specs.Showing.{IsFirstShown, IsPageOf, IsPageOfRead, IsUnshown, ShowsFirst, page_options}
use Rattle.chi_check.specs.Watch.{WatchOutcome, WatchedFor, WritesClosing, watch_status, watching}
use Rattle.chi_check.specs.Written.{AnyCut}
use Rattle.chi_check.specs.declared.fault.CheckFault.{CheckFault}
use Rattle.chi_check.specs.declared.options.CheckOptions.{CheckOptions}
use Rattle.chi_check.specs.declared.options.WatchingOptions.{WatchingOptions}
use Rattle.chi_check.proofs.CheckLemmas.{right_by}
use Rattle.chi_check.proofs.SavingLemmas.{more_then, put_weaker, whole_told}
use Rattle.chi_check.proofs.WatchLemmas.{before_it, unanswered}

-- what is reported of the trace of some lines has the page of a check of these
pub page_reported : (IsCut : Option ℕ → Type 0) (how options : CheckOptions) (lines : List ℕ) (r : RecordedValue) (status : ℕ) (text page : List ℕ) → how ≡ options → HasTrace options.lines lines r
    → IsReported IsCut how (judged how r) status text page → IfSome options.html (λ _. IsPageOf options lines page)
page_reported IsCut how options lines r status text page same has reported =
    let it = subst (λ (o : CheckOptions). IsReported IsCut o (judged o r) status text page) same reported in
    IfSome_then options.html it.3 (λ path is. record { recorded = r; has_trace = has; answer = it.0; text = text; right = right_by IsCut AnyCut (λ cut_short is_cut. tt) options (judged options r) it.0 text it.1; page_is = is })

-- states that were looked at after those of a budget
pub spent_after : {P : Type 0} (states : P → ℕ → Type 0) (looked : Search → P → ℕ → Type 0) (old middle new : P) (budget : ℕ) → WatchedFor states looked old middle budget → Grew states middle new
    → WatchedFor states looked old new budget
spent_after states looked old middle new budget first then n knows =
    let begun = first n knows in
    let ended = then begun.0 begun.2 in
    (ended.0, omega (arith, begun.1, ended.1), ended.2)

-- a page that was not put: the granules that were found are written
module _ (options : WatchOptions) (old new : Option (List ℕ)) (w : Watched) (told : Appends old new (flat_map (found_text options.answer) w.found.items)) where
  unshown_in : (input : List ℕ) (fault : CheckFault) → IsWatched options.format input options.keep_going options.around w → IsUnshown w fault → WatchOutcome options input old new (Err fault)
  unshown_in input fault is (inl same) = subst (λ (f : CheckFault). WatchOutcome options input old new (Err f)) (sym same) (w, is, told)
  unshown_in input fault is (inr same) =
      subst (λ (f : CheckFault). WatchOutcome options input old new (Err f)) (sym same) (before_it options old new input lines_fault.Memory w.found.items tt is.found told)

  pub unshown : (remaining : Option (List ℕ)) (fault : CheckFault) → IfSome remaining (λ input. IsWatched options.format input options.keep_going options.around w) → IsUnshown w fault
      → IfSome remaining (λ input. WatchOutcome options input old new (Err fault))
  unshown remaining fault is why = IfSome_then remaining is (λ input it. unshown_in input fault it why)

  pub unshown_unanswered : (fault : CheckFault) → IsUnshown w fault → KeepsUnanswered old new (Err fault)
  unshown_unanswered fault (inl same) = subst (λ (f : CheckFault). KeepsUnanswered old new (Err f)) (sym same) tt
  unshown_unanswered fault (inr same) =
      subst (λ (f : CheckFault). KeepsUnanswered old new (Err f)) (sym same) (unanswered options old new lines_fault.Memory w.found.items (λ _. told))

-- lines are kept where a page is asked for
or_true : (b : Bool) → b || true ≡ true
or_true true = refl
or_true false = refl

-- what was put at the path
module _ {P : Type 0} (has_put : P → List ℕ → List ℕ → Type 0) (options : WatchingOptions) where
  first_shown : (input rest : List ℕ) (w : Watched) (kept : Option (Vec ℕ Global)) (path : List ℕ) (before after : P) → is_some kept ≡ true → AreKept input kept rest
      → IfSome kept (λ k. IsPutOf has_put (first_listed w) (λ g page. IsPageOf (page_options options g) k.items page) path before after)
      → IsPutOf has_put (first_listed w) (IsPageOfRead options input rest) path before after
  first_shown input rest w None path before after some are put = absurd (true≢false (sym some))
  first_shown input rest w (Some k) path before after some are put =
      put_weaker has_put (first_listed w) (λ g page. IsPageOf (page_options options g) k.items page) (IsPageOfRead options input rest) path before after
      (λ g page is. (k.items, are, is)) put

  shown_in : (input : List ℕ) (old new : Option (List ℕ)) (status : ℕ) (w : Watched) (before between after : P) (saves : Bool) (html : Option (Bor (List ℕ)))
      → (is : IsWatched options.format input options.keep_going options.around w) → is_some w.kept ≡ (saves || is_some html) → status ≡ watch_status (watching options) w
      → Appends old new (watched_text (watching options) w) → PutsMore has_put (first_listed w) before between → IfSome html (λ path. IsFirstShown has_put options w path.now between after)
      → IfSome html (λ path. (watched : Watched) × (it : IsWatched options.format input options.keep_going options.around watched) × (status ≡ watch_status (watching options) watched)
      × Appends old new (watched_text (watching options) watched) × IsPutOf has_put (first_listed watched) (IsPageOfRead options input it.rest) path.now before after)
  shown_in input old new status w before between after saves None is keeps status_is appends more put = tt
  shown_in input old new status w before between after saves (Some path) is keeps status_is appends more put =
      let first = first_shown input is.rest w w.kept path.now between after (keeps ∙ or_true saves) is.kept put in
      (w, is, status_is, appends, more_then has_put (first_listed w) (IsPageOfRead options input is.rest) path.now before between after more first)

  pub shown : (how : WatchOptions) (remaining old mid new : Option (List ℕ)) (w : Watched) (before between after : P) (result : Result ℕ CheckFault) → how ≡ watching options
      → IfSome remaining (λ input. IsWatched how.format input how.keep_going how.around w) → is_some w.kept ≡ how.keep_lines → Appends old mid (flat_map (found_text how.answer) w.found.items)
      → WritesClosing how w mid new result → PutsMore has_put (first_listed w) before between → IfSome options.html (λ path. IsFirstShown has_put options w path.now between after)
      → IfOk result (λ status. IfSome remaining (λ input. ShowsFirst has_put options input old new status before after))
  shown how remaining old mid new w before between after result how_is is keeps told writes more put =
      let kept = keeps ∙ ap (λ (h : WatchOptions). h.keep_lines) how_is in
      IfOk-weaker result _ _
      (λ status whole. IfSome_then remaining whole
      (λ input all. shown_in input old new status w before between after (is_some options.save) options.html all.0 kept all.1 all.2 more put))
      (whole_told options how remaining old mid new w result how_is is told writes)
