-- A look asks of the cell that it fits.
use Rattle.std.proofs.Common.{rules}
use Rattle.chi_lockstore.proofs.Room.{cell_fits}
use Rattle.chi_lockstore.proofs.cell_steps.load.Goals as goal

pub load_as-requires : goal.load_as-requires
load_as-requires g c = (cell_fits g.row.A c.requires.small, (search rules, (c.requires.own, c.requires.rule)))
