-- the rules that a text states, or its first fault
use Rattle.std.specs.Prelude.{◌≡◌, ℕ, ◌+◌, ◌-◌, ◌^◌, ◌==◌, if◌then◌else◌, List, [], ◌∷◌, option_and_then, Option, None, Some, Result, Ok, Err}
use Rattle.std.specs.Option.{ok_or}
use Rattle.serde_json.specs.Data.{Data, Items, Members, no_items, item}
use Rattle.serde_json.specs.Find.{as_array, as_object, as_str, get}
use Rattle.chi_json.specs.Faults.{of_member}
use Rattle.chi_json.specs.Members.{◌>>=◌, member_by, number_of, or_else}
use Rattle.chi_json.specs.Unknown.{unknown_in}
use Rattle.chi_json.specs.Values.{json_value}
use Rattle.chi_json.specs.declared.fault.ObjectFault.{ObjectFault}
use Rattle.chi_json.specs.declared.fault.ObjectFault.TheVariants.{NotObject, UnknownMember}
use Rattle.chi_json.specs.declared.member.MemberFault.{MemberFault}
use Rattle.chi_json.specs.declared.shown.ShownText.{ShownText}
use Rattle.chi_cover.specs.Plan.{IsPlan, PlanValue, RuleValue, bins_fitting}
use Rattle.chi_plan.specs.Member.{member_name}
use Rattle.chi_plan.specs.declared.fault.PlanFault.{PlanFault}
use Rattle.chi_plan.specs.declared.fault.PlanFault.TheVariants.{NotJson, NotArray, InRule, NoBin}
use Rattle.chi_plan.specs.declared.member.Member.{Member}
use Rattle.chi_plan.specs.declared.member.Member.TheVariants.{Bins, Goal, Why}

-- how many operations each bin has to count; none where nothing is said of it
abbrev pub goal_by : Option Data → Data → Result (Option ℕ) (MemberFault Member)
goal_by None d = Ok None
goal_by (Some stated) d = do
  goal ← number_of member_name Goal (2 ^ 64 - 1) d
  Ok (Some goal)

unfoldable pub goal_of : Data → Result (Option ℕ) (MemberFault Member)
goal_of d = goal_by (get (member_name Goal) d) d

-- a text that is not empty
abbrev pub some_text : List ℕ → Option (List ℕ)
some_text [] = None
some_text (c ∷ cs) = Some (c ∷ cs)

abbrev pub reason : Data → Option (List ℕ)
reason d = option_and_then some_text (as_str d)

-- the reason: it may be left out where there is a goal, and is empty then
abbrev pub why_by : Option ℕ → Option Data → Data → Result (List ℕ) (MemberFault Member)
why_by (Some goal) None d = Ok []
why_by goal stated d = member_by member_name Why reason d

unfoldable pub why_of : Option ℕ → Data → Result (List ℕ) (MemberFault Member)
why_of goal d = why_by goal (get (member_name Why) d) d

-- what the members of an object state
unfoldable pub stated_of : Data → Result RuleValue (MemberFault Member)
stated_of d = do
  bins ← member_by member_name Bins as_str d
  goal ← goal_of d
  why ← why_of goal d
  Ok (record { bins = bins; goal = goal; why = why })

-- a rule, unless there is a member that it may not have
abbrev pub unless_unknown : Option ShownText → RuleValue → Result RuleValue (ObjectFault Member)
unless_unknown (Some name) rule = Err (UnknownMember name)
unless_unknown None rule = Ok rule

-- the rule that an object with these members is
unfoldable pub object_rule : Data → Members → Result RuleValue (ObjectFault Member)
object_rule d members = do
  rule ← or_else (of_member member_name d) (stated_of d)
  unless_unknown (unknown_in member_name ((Bins ∷ Goal ∷ Why ∷ []) ∷ []) members) rule

abbrev pub rule_in : Data → Option Members → Result RuleValue (ObjectFault Member)
rule_in d None = Err NotObject
rule_in d (Some members) = object_rule d members

-- the rule with a number
unfoldable pub rule_at : ℕ → Data → Result RuleValue PlanFault
rule_at number d = do
  rule ← or_else (InRule number) (rule_in d (as_object d))
  if bins_fitting rule.bins == 0 then Err (NoBin number) else Ok rule

-- the rules of an array, of which the first has this number
unfoldable pub rules_from : ℕ → Items → Result (List RuleValue) PlanFault
rules_from number no_items = Ok []
rules_from number (item d ds) = do
  rule ← rule_at number d
  rules ← rules_from (number + 1) ds
  Ok (rule ∷ rules)

-- the rules that a text states
unfoldable pub rules_text : List ℕ → Result (List RuleValue) PlanFault
rules_text text = do
  d ← ok_or (json_value text) NotJson
  elements ← ok_or (as_array d) NotArray
  rules_from 1 elements

-- the plan of these rules, with this goal of all bins
pub record IsPlanOf (text : List ℕ) (all : ℕ) (plan : PlanValue) : Type 0 where
  pub rules : rules_text text ≡ Ok plan.rules
  pub goals : IsPlan all plan.rules plan
