-- a coverage as JSON: one object on one line
use Rattle.std.specs.Prelude.{ℕ, ◌==◌, if◌then◌else◌, List, [], ◌∷◌, ◌++◌, codes, decimal, Option, None, Some}
use Rattle.std.specs.List.{join_by}
use Rattle.chi_fields.specs.Refusal.{name_of}
use Rattle.chi_fields.specs.Refusals.{all_refusals}
use Rattle.chi_fields.specs.declared.refusal.Refusal.{Refusal}
use Rattle.chi_cover.specs.declared.bin.Bin.{Bin}
use Rattle.chi_cover.specs.Bins.{all_bins, comparison_bins, enables_bins, line_sequence_bins, open_bins, operation_bins, overlap_bins, requester_bins, result_bins, sequence_bins}
use Rattle.chi_cover.specs.Counts.{covered_of, percent_of, wanted_of}
use Rattle.chi_cover.specs.Names.{bin_name}
use Rattle.chi_cover.specs.Plan.{PlanValue, goal_in}
use Rattle.chi_cover.specs.PlanJson.{plan_json}

-- what stands for one that comes after another
abbrev pub further : {X : Type 0} → (X → List ℕ) → X → List ℕ
further text x = codes "," ++ text x

-- a name, and how many there were of it. The count is a text, since it can be greater than a number of JSON holds exactly
abbrev pub counted_json : List ℕ → ℕ → List ℕ
counted_json name count = codes "[\"" ++ (name ++ (codes "\",\"" ++ (decimal count ++ codes "\"]")))

-- the goal of a bin, where it is another than that of all
abbrev pub own_goal : ℕ → Option ℕ → List ℕ
own_goal general None = codes ",null"
own_goal general (Some goal) = if goal == general then [] else codes ",\"" ++ (decimal goal ++ codes "\"")

-- a bin: its name, its count, and its goal, where it is another than that of all
unfoldable pub bin_json : PlanValue → (Bin → ℕ) → Bin → List ℕ
bin_json plan counts bin =
    codes "[\"" ++ (bin_name bin ++ (codes "\",\"" ++ (decimal (counts bin) ++ (codes "\"" ++ (own_goal plan.goal (goal_in plan bin) ++ codes "]")))))

-- bins, one after the other
unfoldable pub bins_json : PlanValue → (Bin → ℕ) → List Bin → List ℕ
bins_json plan counts bins = join_by (bin_json plan counts) (codes ",") bins

-- the groups: the name of each, and its bins
abbrev pub all_groups : List (List ℕ × List Bin)
all_groups =
    (codes "operations", operation_bins) ∷ (codes "compares", comparison_bins) ∷ (codes "writes", enables_bins) ∷ (codes "results", result_bins)
    ∷ (codes "open at once", open_bins) ∷ (codes "overlaps", overlap_bins) ∷ (codes "requesters", requester_bins) ∷ (codes "sequences", sequence_bins) ∷ (codes "line sequences", line_sequence_bins) ∷ []

-- a group: its name, and its bins
unfoldable pub group_json : PlanValue → (Bin → ℕ) → List ℕ × List Bin → List ℕ
group_json plan counts group = codes "{\"name\":\"" ++ (group.0 ++ (codes "\",\"bins\":[" ++ (bins_json plan counts group.1 ++ codes "]}")))

unfoldable pub groups_json : PlanValue → (Bin → ℕ) → List ℕ
groups_json plan counts = join_by (group_json plan counts) (codes ",") all_groups

-- how many bins are covered, how many have a goal, how many of a hundred that is, and the goal of all
unfoldable pub covered_json : PlanValue → (Bin → ℕ) → List ℕ
covered_json plan counts =
    codes "\"covered\":\"" ++ (decimal (covered_of (goal_in plan) counts all_bins) ++ (codes "\",\"bins\":\"" ++ (decimal (wanted_of (goal_in plan) all_bins)
    ++ (codes "\",\"percent\":\"" ++ (decimal (percent_of (goal_in plan) counts) ++ (codes "\",\"goal\":\"" ++ (decimal plan.goal ++ codes "\"")))))))

-- a number, as a text
unfoldable pub number_json : ℕ → List ℕ
number_json number = codes "\"" ++ (decimal number ++ codes "\"")

-- numbers, one after the other
unfoldable pub numbers_json : List ℕ → List ℕ
numbers_json numbers = join_by number_json (codes ",") numbers

-- the member that says how many bins each input added, after another one
unfoldable pub added_json : List ℕ → List ℕ
added_json added = codes ",\"added\":[" ++ (numbers_json added ++ codes "]")

-- a reason: its name, and how many requests were refused for it
unfoldable pub reason_json : (Refusal → ℕ) → Refusal → List ℕ
reason_json refused reason = counted_json (name_of reason) (refused reason)

-- reasons, one after the other
unfoldable pub reasons_json : (Refusal → ℕ) → List Refusal → List ℕ
reasons_json refused reasons = join_by (reason_json refused) (codes ",") reasons

-- what was covered, the rules of the plan, how many bins each input added, and how many requests were refused for each reason
unfoldable pub cover_json : PlanValue → List ℕ → (Bin → ℕ) → (Refusal → ℕ) → List ℕ
cover_json plan added counts refused =
    codes "{" ++ (covered_json plan counts ++ (plan_json plan.rules ++ (added_json added ++ (codes ",\"groups\":[" ++ (groups_json plan counts
    ++ (codes "],\"refused\":[" ++ (reasons_json refused all_refusals ++ codes "]}\n")))))))
