-- what was counted is written, and its page is put
use Rattle.std.proofs.Common.{ℕ, List, Option, None, Some, Ok, Err, IfSome, IsTrue, is_some}
use Rattle.std.specs.Io.KnownBytes.{Appends}
use Rattle.std.proofs.lemmas.Option.{IfSome_then}
use Rattle.chi_script.specs.WriterBytes.{AppendsFront}
use Rattle.chi_script.specs.declared.device.WriteFault.{WriteFault}
use Rattle.chi_cover.specs.Counts.{count_in, percent_of}
use Rattle.chi_cover.specs.Plan.{PlanValue, goal_in}
use Rattle.chi_check.specs.Cover.{CoverOutcome, HasCounts, IsCoverPage, IsCoverPut, IsCoverStatus, written_of}
use Rattle.chi_check.specs.Planned.{IsPlanned}
use Rattle.chi_check.specs.declared.inputs.Counted.{Counted}
use Rattle.chi_check.specs.declared.fault.CheckFault.TheVariants.{Page, Write}
use Rattle.chi_check.specs.declared.options.CoverOptions.{CoverOptions}

-- two facts of what there may be, and what follows from both
both : {X : Type 0} {P Q R : X → Type 0} (o : Option X) → IfSome o P → IfSome o Q → ((x : X) → P x → Q x → R x) → IfSome o R
both None p q then = tt
both (Some x) p q then = then x p q

-- a fact that no option changes
pub ever : {X : Type 0} {P : Type 0} (o : Option X) → P → IfSome o (λ x. P)
ever None is = tt
ever (Some x) is = is

module _ (holds : List ℕ → List ℕ → Type 0) (options : CoverOptions) (remaining : Option (List ℕ)) (plan : PlanValue) (planned : IsPlanned holds options plan) (counted : Counted) (has : IfSome remaining (λ input. HasCounts holds options (goal_in plan) input counted)) (old new : Option (List ℕ)) where
  -- the counts were written
  pub written : (status : ℕ) → IsCoverStatus options.require (percent_of (goal_in plan) (count_in counted.covered)) status → Appends old new (written_of options plan counted)
      → IfSome remaining (λ input. CoverOutcome holds options input old new (Ok status))
  written status is appends = IfSome_then remaining has (λ input here. (plan, counted, record { planned = planned; counts = here }, is, appends))

  -- their writer failed
  pub cut : (fault : WriteFault) → AppendsFront old new (written_of options plan counted) → IfSome remaining (λ input. CoverOutcome holds options input old new (Err (Write fault)))
  cut fault front = IfSome_then remaining has (λ input here. (plan, counted, record { planned = planned; counts = here }, front))

  -- their page could not be put
  pub unput : IsTrue (is_some options.html) → IfSome remaining (λ input. CoverOutcome holds options input old new (Err Page))
  unput asked = IfSome_then remaining has (λ input here. (plan, counted, record { planned = planned; counts = here }, asked))

  -- their page was put
  pub put : {P : Type 0} (has_put : P → List ℕ → List ℕ → Type 0) (page : List ℕ) (pages : P) → IfSome options.html (λ path. IsCoverPage plan counted page) → Appends old new (written_of options plan counted)
      → IfSome options.html (λ path. has_put pages path.now page) → IfSome remaining (λ input. IsCoverPut holds has_put options input old new pages)
  put has_put page pages is appends was_put =
      IfSome_then remaining has
      (λ input here. both options.html is was_put (λ path is_page was. (plan, counted, page, record { planned = planned; counts = here }, is_page, appends, was)))
