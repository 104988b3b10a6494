-- a plan with one rule more, and the rules that follow
use Rattle.std.proofs.Common.{◌≡◌, ℕ, ◌+◌, ◌<◌, ◌≤◌, List, [], ◌∷◌, ◌++◌, Option, Some, Result, Ok, Err, IfErr, IsErrAnd, append_assoc, append-nil, drop, get_or, length, refl, subst, sym, ap, ◌∙◌}
use Rattle.std.proofs.lemmas.Bool.{eq-eqb, ne_eqb}
use Rattle.std.proofs.lemmas.List.{at_drop_all, at_drop_more}
use Rattle.serde_json.specs.Data.{Data, Items, Members, item}
use Rattle.serde_json.specs.Find.{as_object}
use Rattle.serde_json.specs.View.{items_view, view}
use Rattle.serde_json.specs.declared.value.Value.{Value}
use Rattle.chi_json.specs.Members.{◌>>=◌}
use Rattle.chi_cover.specs.declared.bin.Bin.{Bin}
use Rattle.chi_cover.specs.Plan.{IsPlan, IsRuleAdded, PlanValue, RuleValue, bins_fitting, goal_after, goal_by}
use Rattle.chi_plan.specs.Rules.{object_rule, rule_at, rules_from}
use Rattle.chi_plan.specs.declared.fault.PlanFault.{PlanFault}
use Rattle.chi_plan.specs.declared.fault.PlanFault.TheVariants.{NoBin}

after_all : (rules : List RuleValue) (rule : RuleValue) (before : Option ℕ) (bin : Bin) → goal_after (rules ++ rule ∷ []) before bin ≡ goal_by rule (goal_after rules before bin) bin
after_all [] rule before bin = refl
after_all (first ∷ rules) rule before bin = after_all rules rule (goal_by first before bin) bin

pub rule_added : (all : ℕ) (rule : RuleValue) (old new : PlanValue) → IsPlan all old.rules old → IsRuleAdded rule old new → IsPlan all new.rules new
rule_added all rule old new planned added = record {
  goal = added.goal ∙ planned.goal;
  rules = refl;
  each = λ bin there.
      added.each bin there
      ∙ (ap (λ before. goal_by rule before bin) (planned.each bin there)
      ∙ (sym (after_all old.rules rule (Some all) bin) ∙ ap (λ (rules : List RuleValue). goal_after rules (Some all) bin) (sym added.rules)));
}

-- the rules so far, and then those that follow
abbrev pub after : List RuleValue → Result (List RuleValue) PlanFault → Result (List RuleValue) PlanFault
after so_far (Ok rules) = Ok (so_far ++ rules)
after so_far (Err fault) = Err fault

pub one_more : (number : ℕ) (d : Data) (so_far more : List RuleValue) (rule : RuleValue) → rule_at number d ≡ Ok rule → more ≡ so_far ++ rule ∷ [] → (rest : Items)
    → after so_far (rules_from number (item d rest)) ≡ after more (rules_from (number + 1) rest)
unfolding rules_from
one_more number d so_far more rule is grown rest =
    ap (λ r. after so_far (r >>= (λ first. rules_from (number + 1) rest >>= (λ rules. Ok (first ∷ rules))))) is
    ∙ (by_rest (rules_from (number + 1) rest) ∙ ap (λ l. after l (rules_from (number + 1) rest)) (sym grown))
  where
    by_rest : (r : Result (List RuleValue) PlanFault) → after so_far (r >>= (λ rules. Ok (rule ∷ rules))) ≡ after (so_far ++ rule ∷ []) r
    by_rest (Ok rules) = ap Ok (sym (append_assoc so_far (rule ∷ []) rules))
    by_rest (Err fault) = refl

pub none_yet : (r : Result (List RuleValue) PlanFault) → after [] r ≡ r
none_yet (Ok rules) = refl
none_yet (Err fault) = refl

-- the rules so far, and then those of the elements from a place on
abbrev pub rest_of : ℕ → List Value → List RuleValue → Result (List RuleValue) PlanFault
rest_of place values so_far = after so_far (rules_from (place + 1) (items_view (drop place values)))

-- the element at a place is a rule
pub one_found : (place : ℕ) (values : List Value) (value : Value) (so_far more : List RuleValue) (rule : RuleValue) → place < length values → value ≡ get_or values place value
    → rule_at (place + 1) (view value) ≡ Ok rule → more ≡ so_far ++ rule ∷ [] → rest_of place values so_far ≡ rest_of (place + 1) values more
one_found place values value so_far more rule under here is grown =
    let rest : Items = items_view (drop (place + 1) values) in
    at_drop_more (λ vs. after so_far (rules_from (place + 1) (items_view vs))) values place value under
    ∙ (ap (λ v. after so_far (rules_from (place + 1) (item (view v) rest))) (sym here) ∙ one_more (place + 1) (view value) so_far more rule is grown rest)

-- or it is none: the fault of all, by what they make together
pub none_found : (place : ℕ) (values : List Value) (value : Value) (so_far : List RuleValue) (fault : PlanFault) (all : Result (List RuleValue) PlanFault) → rest_of place values so_far ≡ all
    → place < length values → value ≡ get_or values place value → rule_at (place + 1) (view value) ≡ Err fault → all ≡ Err fault
unfolding rules_from
none_found place values value so_far fault all together under here is =
    let rest : Items = items_view (drop (place + 1) values) in
    sym together ∙ (at_drop_more (λ vs. after so_far (rules_from (place + 1) (items_view vs))) values place value under
    ∙ (ap (λ v. after so_far (rules_from (place + 1) (item (view v) rest))) (sym here)
    ∙ ap (λ r. after so_far (r >>= (λ first. rules_from (place + 1 + 1) rest >>= (λ rules. Ok (first ∷ rules))))) is))

-- what is said of a fault that is passed on
pub passed_on : (r : Result PlanValue PlanFault) (fault : PlanFault) (P : PlanFault → Type 0) → IsErrAnd r (λ f. f ≡ fault) → P fault → IfErr r P
passed_on (Ok plan) fault P is said = absurd is
passed_on (Err f) fault P is said = subst P (sym is) said

-- past the last one
pub all_found : (place : ℕ) (values : List Value) (so_far : List RuleValue) → length values ≤ place → rest_of place values so_far ≡ Ok so_far
unfolding rules_from
all_found place values so_far past =
    at_drop_all (λ vs. after so_far (rules_from (place + 1) (items_view vs))) values place past ∙ ap Ok (append-nil so_far)

-- the rule that an object is, where no bin fits its pattern
pub no_bin : (number : ℕ) (d : Data) (listed : Members) (rule : RuleValue) → as_object d ≡ Some listed → object_rule d listed ≡ Ok rule → bins_fitting rule.bins ≡ 0
    → rule_at number d ≡ Err (NoBin number)
unfolding rule_at
no_bin number d listed rule here is none = rw (here, is, eq-eqb (bins_fitting rule.bins) 0 none) refl

-- and where some fit
pub fitting_rule : (number : ℕ) (d : Data) (listed : Members) (rule : RuleValue) → as_object d ≡ Some listed → object_rule d listed ≡ Ok rule → (bins_fitting rule.bins ≡ 0 → ⊥)
    → rule_at number d ≡ Ok rule
unfolding rule_at
fitting_rule number d listed rule here is some = rw (here, is, ne_eqb (bins_fitting rule.bins) 0 some) refl
