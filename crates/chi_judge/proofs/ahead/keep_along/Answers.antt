-- the first so many, perhaps without the first, and one more
use Rattle.std.proofs.Common.{All, sym, ap, subst, ◌∙◌}
use Rattle.std.proofs.lemmas.List.Elements.{All-drop, All-push, All-take}
use Rattle.chi_search.specs.Frontiers.{FrontierValue, GoesAlong}
use Rattle.chi_judge.proofs.ahead.keep_along.Goals as goal
use Rattle.chi_judge.proofs.ahead.keep_along.Goals.{then-len-ge-MOST, else-len-ge-MOST}

pub returns : goal.returns
returns c words told all along =
    let P : FrontierValue → Type 0 = GoesAlong words told in
    let first = subst (All P) (sym c.truncate.ensures.items) (All-take P c.args.count c.args.searches.now.items all) in
    let fewer : All P c.if-len-ge-MOST.searches.items = elim c.if-len-ge-MOST.branch [
      | then-len-ge-MOST w ↦ subst (All P) (sym (ap (λ (s : _). s.items) w.searches-is ∙ w.remove.ensures.items)) (All-drop P 1 c.truncate.new.self.items first)
      | else-len-ge-MOST w ↦ subst (All P) (sym (ap (λ (s : _). s.items) w.searches-is)) first
    ] in
    subst (All P) (sym c.in_ok-push.ensures.items) (All-push P c.if-len-ge-MOST.searches.items c.args.next fewer along)
