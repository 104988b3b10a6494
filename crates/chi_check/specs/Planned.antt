-- the plan of a count: that of a file, where one is named
use Rattle.std.specs.Prelude.{◌≡◌, ◌≢◌, ℕ, List, [], Option, None, Some, Err}
use Rattle.std.specs.Borrow.{Bor}
use Rattle.chi_cover.specs.Plan.{IsPlan, PlanValue}
use Rattle.chi_plan.specs.Rules.{IsPlanOf, rules_text}
use Rattle.chi_plan.specs.declared.fault.PlanFault.TheVariants as plan_fault
use Rattle.chi_check.specs.declared.fault.PlanFileFault.{PlanFileFault}
use Rattle.chi_check.specs.declared.fault.PlanFileFault.TheVariants.{Refused}
use Rattle.chi_check.specs.declared.options.CoverOptions.{CoverOptions}

-- a plan with a goal of all bins, and the rules of the file at a path, where there is one
abbrev pub IsPlannedBy : (List ℕ → List ℕ → Type 0) → ℕ → Option (Bor (List ℕ)) → PlanValue → Type 0
IsPlannedBy holds goal None plan = IsPlan goal [] plan
IsPlannedBy holds goal (Some path) plan = (text : List ℕ) × holds path.now text × IsPlanOf text goal plan

abbrev pub IsPlanned : (List ℕ → List ℕ → Type 0) → CoverOptions → PlanValue → Type 0
IsPlanned holds options plan = IsPlannedBy holds options.goal options.plan plan

-- why there is no plan: its file was not read, or what it holds is none
abbrev pub IsPlanFault : (List ℕ → List ℕ → Type 0) → Option (Bor (List ℕ)) → PlanFileFault → Type 0
IsPlanFault holds None (Refused fault) = fault ≡ plan_fault.Memory
IsPlanFault holds None fault = ⊥
IsPlanFault holds (Some path) (Refused fault) = fault ≢ plan_fault.Memory → (text : List ℕ) × holds path.now text × (rules_text text ≡ Err fault)
IsPlanFault holds (Some path) fault = Unit {0}
