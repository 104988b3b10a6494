-- what the elements found and those to come make together
use Rattle.std.proofs.Common.{◌≡◌, ℕ, List, ◌++◌, drop, Result, Ok, Err}
use Rattle.serde_json.specs.View.{items_view}
use Rattle.serde_json.specs.declared.value.Value.{Value}
use Rattle.chi_fields.specs.declared.request.Request.{Request}
use Rattle.chi_json.specs.declared.member.MemberFault.{MemberFault}
use Rattle.chi_script.specs.declared.member.Member.{Member}
use Rattle.chi_script.specs.Script.{requests_of}
use Rattle.chi_script.proofs.requests.requests.Given as goal

-- the requests found, and then those that follow
abbrev pub after : List Request → Result (List Request) (MemberFault Member) → Result (List Request) (MemberFault Member)
after found (Ok requests) = Ok (found ++ requests)
after found (Err fault) = Err fault

-- the requests found, and then those of the elements from an index on
abbrev pub rest_of : ℕ → List Value → List Request → ℕ → Result (List Request) (MemberFault Member)
rest_of top values found i = after found (requests_of top (items_view (drop i values)))

abbrev pub invariant-loop-value : goal.invariant-loop-value
invariant-loop-value l = rest_of l.top l.list l.found.items l.value-index ≡ requests_of l.top (items_view l.list)
