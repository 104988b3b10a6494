-- the names of the members of a rule
use Rattle.std.specs.Prelude.{ℕ, List, codes}
use Rattle.chi_plan.specs.declared.member.Member.{Member}
use Rattle.chi_plan.specs.declared.member.Member.TheVariants.{Bins, Goal, Why}

abbrev pub member_name : Member → List ℕ
member_name Bins = codes "bins"
member_name Goal = codes "goal"
member_name Why = codes "why"
