-- the counts so far
use Rattle.std.proofs.Common.{◌≡◌, ◌==◌, ◌%◌, ◌++◌, filter, flat_map}
use Rattle.std.specs.List.{range_with_len}
use Rattle.chi_cover.specs.Counts.{count_in}
use Rattle.chi_cover.specs.Texts.{lane_text}
use Rattle.chi_cover.proofs.rows.add_lane_counts.Given as goal

abbrev pub invariant-loop-lane : goal.invariant-loop-lane
invariant-loop-lane l = l.to.items ≡ l.initial.to.items ++ flat_map (lane_text (count_in l.covered) l.kind l.endian l.len) (filter (λ lane. lane % l.len == 0) (range_with_len 0 l.lane))
