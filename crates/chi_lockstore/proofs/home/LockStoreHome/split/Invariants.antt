-- The number that gets a pass of its own.
use Rattle.chi_lockstore.proofs.home.LockStoreHome.split.Given as goal

abbrev pub ghosts-give : goal.ghosts-give
ghosts-give g a = record { number = a._src }
