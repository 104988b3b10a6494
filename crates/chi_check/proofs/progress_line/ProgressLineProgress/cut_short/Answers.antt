-- what is told of the searches that follow a verdict
use Rattle.std.proofs.Common.{ℕ, ◌+◌, ◌≤◌, Option, None, Some, arith}
use Rattle.std.specs.Prelude.{MatchOption, max}
use Rattle.chi_search.specs.Looks.{after_verdict}
use Rattle.chi_check.specs.Counted.{IsCounted, IsKnown}
use Rattle.chi_check.proofs.progress_line.ProgressLineProgress.cut_short.Goals as goal

cut_told : (may_follow : Option ℕ) (begun states : ℕ) (cut_short : Option ℕ) (verdict n : ℕ) → IsKnown (after_verdict verdict) may_follow begun states cut_short n
    → MatchOption cut_short (IsCounted states n) (λ most. (m : ℕ) × (verdict + most ≤ m) × IsCounted states m)
cut_told may_follow begun states None verdict n (begun_is, under, within, is) = is
cut_told may_follow begun states (Some most) verdict n (begun_is, under, within, is) =
    (max verdict states, omega (arith, begun_is, under, within, is), omega (arith, begun_is, under, within, is))

pub returns : goal.returns
returns g c verdict n known = cut_told c.args.self.now.may_follow c.args.self.now.begun c.args.self.now.states c.args.self.now.cut_short verdict n known
