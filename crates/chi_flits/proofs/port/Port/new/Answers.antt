-- nothing is known where no flit was seen
use Rattle.std.specs.BTreeMap.{is_at}
use Rattle.std.specs.Map.{lookup}
use Rattle.std.specs.Ordering.{nat_cmp}
use Rattle.std.proofs.Common.{refl, ap}
use Rattle.chi_flits.specs.History.{given, taken}
use Rattle.chi_flits.proofs.port.Port.new.Goals as goal

pub returns : goal.returns
unfolding taken given
returns c = record {
  transactions = λ k. ap (lookup (is_at (nat_cmp k))) c.new.ensures.empty;
  transfers = λ d. ap (lookup (is_at (nat_cmp d))) c.new-2.ensures.empty;
  count = refl;
  time = refl;
}
