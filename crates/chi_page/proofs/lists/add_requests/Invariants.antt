-- the texts so far
use Rattle.std.proofs.Common.{◌≡◌, ◌++◌}
use Rattle.chi_page.specs.Listed.{comma, listed}
use Rattle.std.specs.Prelude.{decimal}
use Rattle.chi_trace.specs.Explains.{at}
use Rattle.chi_page.proofs.lists.add_requests.Given as goal

abbrev pub invariant-loop-number : goal.invariant-loop-number
invariant-loop-number l = l.to.items ≡ l.initial.to.items ++ listed comma (λ n. decimal (at l.ops n).number) l.number
