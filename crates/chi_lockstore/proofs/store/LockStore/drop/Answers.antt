-- The cell fits in memory, so it can be dropped.
use Rattle.std.proofs.Common.{ℕ, ◌^◌, ◌<◌, subst}
use Rattle.chi_lockstore.proofs.Room.{cell_fits}
use Rattle.chi_lockstore.proofs.store.LockStore.drop.Goals as goal

pub drop-requires-room-T-Destruct : goal.drop-requires-room-T-Destruct
drop-requires-room-T-Destruct g c κs within = cell_fits g.row.A (subst (λ (n : ℕ). n < 2 ^ 62) g.met.A.TypeSize.bytes_are c.args.self.small)
