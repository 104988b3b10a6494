-- there is a time before, or none
use Rattle.std.proofs.Common.{◌≡◌, ℕ, ◌==◌, List, [], ◌++◌, append_assoc, append-nil, arith, false, sym, ap, ◌∙◌}
use Rattle.std.proofs.lemmas.Bool.Decides.{nat_tests}
use Rattle.chi_answer.specs.Lines.{explained_line}
use Rattle.chi_answer.proofs.stop_lines.add_explained.Goals as goal

pub returns-then-time-eq0 : goal.returns-then-time-eq0
unfolding explained_line
returns-then-time-eq0 c =
    let none : explained_line c.args.time c.args.count ≡ [] = ap (λ (n : ℕ). explained_line n c.args.count) c.if-time-eq0.true in
    sym (ap (λ (l : List ℕ). c.args.to.now.items ++ l) none ∙ append-nil c.args.to.now.items)

pub returns : goal.returns
unfolding explained_line
returns c =
    let some : (c.args.time == 0) ≡ false = grind (arith, nat_tests, c.if-time-eq0.false) in
    rw some (simp append_assoc (simp (c.in_ok-add_count.ensures, c.in_ok-add_parts.ensures, append_assoc, append-nil) at c.add_parts-2.ensures))
