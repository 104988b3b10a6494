-- A cut asks of the cell that it fits.
use Rattle.std.proofs.Common.{rules}
use Rattle.chi_lockstore.proofs.Room.{cell_fits}
use Rattle.chi_lockstore.proofs.cell_steps.cut.Goals as goal

pub split_pass-requires : goal.split_pass-requires
split_pass-requires g c = (cell_fits g.row.A c.requires.small, (search rules, (c.requires.own, c.requires.rule)))
