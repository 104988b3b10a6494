-- The seat stays one of the store's.
use Rattle.chi_store_tests.proofs.tests.lockstore_tests.threads.add_and_swap.Given as goal

abbrev pub invariant-rounds : goal.invariant-rounds
invariant-rounds g l = g.H.Home.belongs l.home l.seat
