-- what is found of the granules of a trace
use Rattle.std.specs.Prelude.{◌≡◌, ℕ, ◌==◌, not, List, [], ◌∷◌, ◌++◌, All, map, ◌↔◌, ◌⊎◌}
use Rattle.std.specs.List.{Contains, filter}
use Rattle.std.specs.List.Sorted.{IsStrictlyIncreasing}
use Rattle.chi_trace.specs.Granules.{granule_of}
use Rattle.chi_verdict.specs.declared.first.Blame.{Blame}
use Rattle.chi_judge.specs.Standings.{IfUndecided as IfNeither}
use Rattle.chi_trace.specs.Traces.{IsExplainedIn}
use Rattle.chi_reading.specs.TraceText.{RecordedValue}
use Rattle.chi_excerpt.specs.Failures.{order_in}
use Rattle.chi_page.specs.declared.drawn.Drawn.{Drawn}
use Rattle.chi_judge.specs.declared.standing.Standing.{Standing}
use Rattle.chi_judge.specs.declared.standing.Standing.TheVariants.{Explained, Unexplained, Undecided}

-- a granule's operations are explained by this order; or no order explains them; or neither was found
abbrev pub IsFound : RecordedValue → ℕ → Standing → List ℕ → Type 0
IsFound r g Explained order = IsExplainedIn r.trace r.final_words g order
IsFound r g Unexplained order = ((other : List ℕ) → IsExplainedIn r.trace r.final_words g other → ⊥) × (order ≡ [])
IsFound r g Undecided order = order ≡ []

-- what is said of the granule holds
abbrev pub IsJudged : RecordedValue → Drawn → Type 0
IsJudged r d = IsFound r d.granule d.finding d.order.items

-- it is the granule that is blamed, with what an order up to the time before has of it
pub record IsBlamed (r : RecordedValue) (blame : Blame) (d : Drawn) : Type 0 where
  pub granule : d.granule ≡ blame.granule
  pub finding : d.finding ≡ Unexplained
  pub order : d.order.items ≡ order_in r blame.granule blame.order.items

-- what is shown of a granule of a trace that stops being explained
abbrev pub IsShown : RecordedValue → Blame → Drawn → Type 0
IsShown r blame d = IsBlamed r blame d ⊎ IsJudged r d

-- the number of each granule that has an operation, or of which a word was observed at the end, is among them
pub record HasGranules (r : RecordedValue) (granule_numbers : List ℕ) : Type 0 where
  pub operations : All (λ op. Contains granule_numbers (granule_of op)) r.trace.operations
  pub final_words : All (λ told. Contains granule_numbers told.granule) r.final_words

-- what is shown is of each of them
abbrev pub AreAll : RecordedValue → List Drawn → Type 0
AreAll r drawn = HasGranules r (map (λ d. d.granule) drawn)

-- the number of the granule of each operation, and of each word that was observed at the end
abbrev pub granules_told : RecordedValue → List ℕ
granules_told r = map granule_of r.trace.operations ++ map (λ told. told.granule) r.final_words

-- these are the granules that have an operation, or of which a word was observed at the end, and no others: each once, in the order
-- of their numbers
pub record AreGranules (r : RecordedValue) (granule_numbers : List ℕ) : Type 0 where
  pub rising : IsStrictlyIncreasing granule_numbers
  pub each : (g : ℕ) → Contains granule_numbers g ↔ Contains (granules_told r) g

-- the granule that is blamed stands first, and then all others, each judged by itself
pub record AreAround (r : RecordedValue) (blame : Blame) (drawn : List Drawn) : Type 0 where
  pub first : Drawn
  pub others : List Drawn
  pub parts : drawn ≡ first ∷ others
  pub blamed : IsBlamed r blame first
  pub judged : All (IsJudged r) others
  pub granule_numbers : List ℕ
  pub are_granules : AreGranules r granule_numbers
  pub but_blamed : map (λ d. d.granule) others ≡ filter (λ g. not (g == blame.granule)) granule_numbers

-- A, where a granule was not decided
abbrev pub IfUndecided : Drawn → Type 0 → Type 0
IfUndecided d A = IfNeither d.finding A
