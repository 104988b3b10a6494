-- the texts so far
use Rattle.std.proofs.Common.{◌≡◌, ◌++◌}
use Rattle.std.specs.Prelude.{slice_get}
use Rattle.chi_page.specs.Listed.{comma, listed}
use Rattle.chi_page.specs.Operations.{reply_json}
use Rattle.chi_page.proofs.object.add_each_reply.Given as goal

abbrev pub invariant-loop-number : goal.invariant-loop-number
invariant-loop-number l = l.to.items ≡ l.initial.to.items ++ listed comma (λ n. reply_json (slice_get l.replies n)) l.number
