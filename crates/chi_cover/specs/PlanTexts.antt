-- the rules of a plan, and the bins that are missing or were met though they are excluded, as a text
use Rattle.std.specs.Prelude.{ℕ, ◌==◌, if◌then◌else◌, nat_le, nat_lt, List, [], ◌∷◌, ◌++◌, codes, decimal, flat_map, map, Option, None, Some}
use Rattle.chi_cover.specs.declared.bin.Bin.{Bin}
use Rattle.chi_cover.specs.Names.{bin_name}
use Rattle.chi_cover.specs.Plan.{RuleValue, bins_fitting}

-- a text on one line: a blank stands for each control character
abbrev pub on_one_line : List ℕ → List ℕ
on_one_line text = map (λ c. if nat_lt c 32 then 32 else c) text

-- what a rule does to its bins
abbrev pub effect_text : Option ℕ → List ℕ
effect_text None = codes "excluded by "
effect_text (Some goal) = codes "at least " ++ (decimal goal ++ codes " by ")

-- the reason, where there is one
abbrev pub reason_text : List ℕ → List ℕ
reason_text [] = []
reason_text (c ∷ cs) = codes " (" ++ (on_one_line (c ∷ cs) ++ codes ")")

-- a rule: what it does, its pattern, how many bins fit, and the reason
unfoldable pub rule_line : RuleValue → List ℕ
rule_line rule =
    effect_text rule.goal ++ (on_one_line rule.bins ++ (codes ": " ++ (decimal (bins_fitting rule.bins) ++ (reason_text rule.why ++ codes "\n"))))

-- the rules of a plan
abbrev pub rules_text : List RuleValue → List ℕ
rules_text rules = flat_map rule_line rules

-- how many operations a missing bin has counted, where it has some, of how many it has to
abbrev pub left_text : ℕ → ℕ → List ℕ
left_text goal count = if count == 0 then [] else codes ": " ++ (decimal count ++ (codes " of " ++ decimal goal))

-- a bin that is missing, and one that is excluded and was met
abbrev pub line_at : Option ℕ → ℕ → Bin → List ℕ
line_at None count bin = if count == 0 then [] else codes "excluded but met: " ++ (bin_name bin ++ (codes ": " ++ (decimal count ++ codes "\n")))
line_at (Some goal) count bin = if nat_le goal count then [] else codes "missing: " ++ (bin_name bin ++ (left_text goal count ++ codes "\n"))

unfoldable pub bin_line : (Bin → Option ℕ) → (Bin → ℕ) → Bin → List ℕ
bin_line goals counts bin = line_at (goals bin) (counts bin) bin
