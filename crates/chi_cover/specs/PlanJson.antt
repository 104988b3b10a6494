-- the rules of a plan as JSON
use Rattle.std.specs.Prelude.{ℕ, ◌+◌, ◌/◌, ◌%◌, ◌==◌, ◌||◌, nat_lt, if◌then◌else◌, List, [], ◌∷◌, ◌++◌, codes, decimal, flat_map, Option, None, Some}
use Rattle.std.specs.List.{join_by}
use Rattle.chi_cover.specs.Plan.{RuleValue, bins_fitting}

-- a digit of base 16
abbrev pub hex_digit : ℕ → ℕ
hex_digit n = if nat_lt n 10 then 48 + n else 87 + n

-- A character within a string of JSON, by its number: control characters, `"`, `\`, and `<`, which would end the data of a page.
abbrev pub escaped : ℕ → List ℕ
escaped c = if nat_lt c 32 || (c == 34 || (c == 92 || c == 60)) then codes "\\u00" ++ (hex_digit (c / 16) ∷ hex_digit (c % 16) ∷ []) else c ∷ []

-- a text as a string of JSON
unfoldable pub string_json : List ℕ → List ℕ
string_json text = codes "\"" ++ (flat_map escaped text ++ codes "\"")

-- a goal, and null where there is none
abbrev pub goal_json : Option ℕ → List ℕ
goal_json None = codes "null"
goal_json (Some goal) = codes "\"" ++ (decimal goal ++ codes "\"")

-- a rule: its pattern, how many bins fit, their goal, and the reason
unfoldable pub rule_json : RuleValue → List ℕ
rule_json rule =
    codes "{\"bins\":" ++ (string_json rule.bins ++ (codes ",\"count\":\"" ++ (decimal (bins_fitting rule.bins) ++ (codes "\",\"goal\":"
    ++ (goal_json rule.goal ++ (codes ",\"why\":" ++ (string_json rule.why ++ codes "}")))))))

-- the rules, one after the other
unfoldable pub rules_json : List RuleValue → List ℕ
rules_json rules = join_by rule_json (codes ",") rules

-- the member that has them, after another one
unfoldable pub plan_json : List RuleValue → List ℕ
plan_json rules = codes ",\"plan\":[" ++ (rules_json rules ++ codes "]")
