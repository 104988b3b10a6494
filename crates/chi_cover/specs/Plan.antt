-- how many operations each bin has to count: a goal of all, and rules for the bins whose names fit a pattern
use Rattle.std.specs.Prelude.{◌≡◌, ℕ, ◌==◌, ◌||◌, ◌&&◌, Bool, true, false, if◌then◌else◌, List, [], ◌∷◌, ◌++◌, Contains, count_by, get_or, Option, None, Some}
use Rattle.chi_cover.specs.declared.bin.Bin.{Bin}
use Rattle.chi_cover.specs.Bins.{all_bins}
use Rattle.chi_cover.specs.Names.{bin_name}
use Rattle.chi_cover.specs.Numbers.{number_of}

-- a name, or what is left of it from some character on, passes a test
abbrev pub has_rest : (List ℕ → Bool) → List ℕ → Bool
has_rest test [] = test []
has_rest test (c ∷ cs) = test (c ∷ cs) || has_rest test cs

-- a name begins with a character, and what follows it passes a test
abbrev pub begins_with : ℕ → (List ℕ → Bool) → List ℕ → Bool
begins_with first test [] = false
begins_with first test (c ∷ cs) = first == c && test cs

abbrev pub is_end : List ℕ → Bool
is_end [] = true
is_end (c ∷ cs) = false

-- A name fits a pattern: each `*`, whose code is 42, stands for any characters or for none, and each other character for itself.
unfoldable pub fits : List ℕ → List ℕ → Bool
fits [] name = is_end name
fits (c ∷ pattern) name = if c == 42 then has_rest (fits pattern) name else begins_with c (fits pattern) name

-- a pattern begins with `*`
abbrev pub is_starred : List ℕ → Bool
is_starred [] = false
is_starred (c ∷ pattern) = c == 42

-- how many bins have a name that fits
abbrev pub bins_fitting : List ℕ → ℕ
bins_fitting pattern = count_by (λ bin. fits pattern (bin_name bin)) all_bins

-- a rule: the pattern of its bins, how many operations each has to count, or none where they are excluded, and a reason, which may be empty
pub record RuleValue : Type 0 where
  pub bins : List ℕ
  pub goal : Option ℕ
  pub why : List ℕ

-- a plan: the goal of all bins, the rules, and how many operations each bin has to count, in the order of the bins' numbers
pub record PlanValue : Type 0 where
  pub goal : ℕ
  pub rules : List RuleValue
  pub goals : List (Option ℕ)

-- how many operations a bin has to count to be covered; none where it is excluded
unfoldable pub goal_in : PlanValue → Bin → Option ℕ
goal_in plan bin = get_or plan.goals (number_of bin) None

-- what a rule makes of the goal of a bin
abbrev pub goal_by : RuleValue → Option ℕ → Bin → Option ℕ
goal_by rule before bin = if fits rule.bins (bin_name bin) then rule.goal else before

-- what rules make of it, one after the other
abbrev pub goal_after : List RuleValue → Option ℕ → Bin → Option ℕ
goal_after [] before bin = before
goal_after (rule ∷ rules) before bin = goal_after rules (goal_by rule before bin) bin

-- a plan with this goal of all bins and these rules
pub record IsPlan (all : ℕ) (stated : List RuleValue) (plan : PlanValue) : Type 0 where
  pub goal : plan.goal ≡ all
  pub rules : plan.rules ≡ stated
  pub each : (bin : Bin) → Contains all_bins bin → goal_in plan bin ≡ goal_after stated (Some all) bin

-- a plan with one rule more, which comes after the others: its bins have its goal now, and each other one what it had
pub record IsRuleAdded (rule : RuleValue) (old new : PlanValue) : Type 0 where
  pub goal : new.goal ≡ old.goal
  pub rules : new.rules ≡ old.rules ++ rule ∷ []
  pub each : (bin : Bin) → Contains all_bins bin → goal_in new bin ≡ goal_by rule (goal_in old bin) bin
