-- The first view is set to this opening.
use Rattle.chi_lockstore.proofs.store.LockStore.open.Given as goal

abbrev pub ghosts-begin : goal.ghosts-begin
ghosts-begin g a = record { opening = a._values.now }
