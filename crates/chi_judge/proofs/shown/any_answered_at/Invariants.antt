-- none of the first operations was answered at the time
use Rattle.std.proofs.Common.{◌≡◌, true, All, take}
use Rattle.chi_trace.specs.Explains.{is_answered}
use Rattle.chi_judge.proofs.shown.any_answered_at.Given as goal

abbrev pub invariant-loop-place : goal.invariant-loop-place
invariant-loop-place l = All (λ op. is_answered op ≡ true → op.end ≡ l.time → ⊥) (take l.place l.ops)
