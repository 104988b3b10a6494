-- A block that is moved to another thread goes back there, where the inner allocator's does.
use mir.Syntax.{Dict}
use denote.RattleType.{RattleType}
use denote.Param.Send.{Frees}
use Rattle.std.specs.declared.alloc.Allocator.{Ghosts}
use Rattle.chi_store_tests.specs.contracts.tests.refusing_allocator.RefusingAllocator.TheImpl.{ghosts}

module _ (B : RattleType) (g : Ghosts B.Denot) where
  pub frees : (d e : Dict) → Frees g g.dealloc_token → Frees (ghosts B g d e) (ghosts B g d e).dealloc_token
  frees d e f = record { frees = λ a τ p. f.frees a.inner τ p }
