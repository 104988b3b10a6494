-- the texts so far
use Rattle.std.proofs.Common.{◌≡◌, ◌++◌}
use Rattle.chi_page.specs.Listed.{comma_line, listed}
use Rattle.std.specs.Prelude.{slice_get}
use Rattle.chi_page.specs.Granules.{drawn_at}
use Rattle.chi_page.proofs.granule.add_granules.Given as goal

abbrev pub invariant-loop-number : goal.invariant-loop-number
invariant-loop-number l = l.to.items ≡ l.initial.to.items ++ listed comma_line (λ n. drawn_at l.recorded (slice_get l.granules n)) l.number
