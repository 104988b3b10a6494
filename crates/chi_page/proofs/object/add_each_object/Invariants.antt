-- the texts so far
use Rattle.std.proofs.Common.{◌≡◌, ◌++◌}
use Rattle.chi_trace.specs.Explains.{at}
use Rattle.chi_page.specs.Listed.{comma, listed}
use Rattle.chi_page.specs.Objects.{object_json}
use Rattle.chi_page.proofs.object.add_each_object.Given as goal

abbrev pub invariant-loop-number : goal.invariant-loop-number
invariant-loop-number l = l.to.items ≡ l.initial.to.items ++ listed comma (λ n. object_json (at l.ops n)) l.number
