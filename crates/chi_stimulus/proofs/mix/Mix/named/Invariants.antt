-- the weights so far
use Rattle.std.proofs.Common.{◌≡◌, ◌≤◌, All, map, true}
use Rattle.std.specs.Prelude.{is_some}
use Rattle.std.specs.List.{filter_map, list_all}
use Rattle.chi_stimulus.specs.Named.{entry_of, weights_of}
use Rattle.chi_stimulus.proofs.mix.Mix.named.Given as goal

abbrev pub invariant-entries : goal.invariant-entries
invariant-entries l = record {
  weights : l.weights ≡ weights_of (filter_map entry_of (map (λ part. part.now) l.yielded));
  entries : list_all (λ part. is_some (entry_of part)) (map (λ part. part.now) l.yielded) ≡ true;
  small : All (λ weight. weight ≤ 1000) l.weights;
}
