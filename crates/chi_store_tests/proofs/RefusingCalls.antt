-- What the calls of the refusing allocator share.
use Rattle.std.proofs.Common.{[], ◌∷◌, refl}
use seplogic.Ra.Ura.{Ura}
use mir.Syntax.{Fn, a_type, dnil, dcons}
use mir.MapTy.{inst_fn}
use types.Logic.{Logic}
use denote.Builtin.{usize}
use denote.Exit.{yes}
use denote.Param.{bounded, param}
use denote.RattleType.{RattleType}
use denote.Signature.{Slot, plain, shr_ref_to}
use denote.Triple.Walked.{Goes, stay_dropped, Goes-dropped}
use Rattle.std.proofs.alloc.Calls.{Al}

module _ (Z : Al) where
  -- the function at the inner allocator's type
  abbrev pub at_inner : Fn → Fn
  at_inner = inst_fn (bounded (a_type ∷ []) (Z.row, tt) (dcons Z.d (dcons Z.drops dnil)))

  -- the allocator itself, as a call takes it, where this is its type around the inner one
  abbrev pub self_as : (RattleType → RattleType) → Slot 2
  self_as around = shr_ref_to (0 ∷ []) tt (plain (λ _. around (param 0 Z.row)))

-- A word that a call takes is dropped at its end.
pub word_goes : {M : Type 1} {𝓤 : Ura M} (𝓛 : Logic 𝓤) → Goes 𝓛 2 (plain (λ _. usize)) yes (stay_dropped (plain (λ _. usize)) yes)
word_goes 𝓛 = Goes-dropped 𝓛 2 (plain (λ _. usize)) yes (λ κs x f. refl)
