-- of nine ends the least is left out
use Rattle.std.proofs.Common.{◌<◌, ◌≤◌, ℕ, List, All, get_or, length, subst, ap, ◌∙◌, arith}
use Rattle.chi_cover.specs.Open.{count_from, up_to_eight}
use Rattle.chi_cover.proofs.Ends.{without_least}
use Rattle.chi_cover.proofs.kept.add_end.Goals as goal

pub returns-then-len-gt-ENDS : goal.returns-then-len-gt-ENDS
returns-then-len-gt-ENDS c =
    let pushed = c.push.new.self.items in
    let i = c.least-place.result in
    let below : i < length pushed = subst (λ ends. i < length ends) c.deref.ensures.value c.least-place.ensures.within in
    let least : All (λ end. get_or pushed i 0 ≤ end) pushed = subst (λ (ends : List ℕ). All (λ end. get_or ends i 0 ≤ end) ends) c.deref.ensures.value c.least-place.ensures.least in
    let many : 8 < length pushed = omega arith in
    record {
      few = omega arith;
      same = λ time.
          let count : List ℕ → ℕ = λ ends. up_to_eight (count_from time ends) in
          ap count c.remove.ensures.items ∙ (without_least pushed i time below many least ∙ ap count c.in_ok-push.ensures.items);
    }
