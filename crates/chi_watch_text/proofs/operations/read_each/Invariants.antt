-- the events that were given were read
use Rattle.std.proofs.Common.{◌≡◌}
use Rattle.chi_watch_text.proofs.AllRead.{HasRead}
use Rattle.chi_watch_text.proofs.operations.read_each.Given as goal

abbrev pub invariant-loop : goal.invariant-loop
invariant-loop g l = record {
  read : HasRead (g.R.Read.remaining l.initial.from) l.ops.items l.refusals.items l.outstanding l.reading (g.R.Read.remaining l.from);
  format : l.reading.format ≡ l.fn.format;
}
