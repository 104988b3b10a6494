-- the texts so far
use Rattle.std.proofs.Common.{◌≡◌, ◌++◌}
use Rattle.chi_page.specs.Listed.{comma, listed}
use Rattle.std.specs.Prelude.{slice_index}
use Rattle.chi_page.specs.Granules.{granule_json}
use Rattle.chi_page.proofs.lists.add_addresses.Given as goal

abbrev pub invariant-loop-number : goal.invariant-loop-number
invariant-loop-number l = l.to.items ≡ l.initial.to.items ++ listed comma (λ n. granule_json (slice_index l.granules n)) l.number
