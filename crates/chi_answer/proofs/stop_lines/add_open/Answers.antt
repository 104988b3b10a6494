-- the times, and the operation
use Rattle.std.proofs.Common.{◌≡◌, ℕ, List, ◌++◌, OnOk, append_assoc, append-nil, codes, decimal, ap, subst, ◌∙◌}
use Rattle.chi_answer.specs.Lines.{open_line, told_text, until_text}
use Rattle.chi_answer.proofs.stop_lines.add_open.Goals as goal

-- one text after the other
joined : (to first until last : List ℕ) → ((to ++ first) ++ until) ++ last ≡ to ++ ((first ++ until) ++ last)
joined to first until last = ap (λ (l : List ℕ). l ++ last) (append_assoc to first until) ∙ append_assoc to (first ++ until) last

pub returns : goal.returns
unfolding open_line
returns c =
    let op = c.args.op.now in
    let first = codes "  open from " ++ decimal op.start in
    let last = told_text op in
    let parts : c.add_parts.new.to.items ≡ c.args.to.now.items ++ first = simp append-nil at c.in_ok-add_parts.ensures in
    let until : c.add_until.new.to.items ≡ (c.args.to.now.items ++ first) ++ until_text op.end = c.in_ok-add_until.ensures ∙ ap (λ (l : List ℕ). l ++ until_text op.end) parts in
    subst (λ (l : List ℕ). OnOk c.add_told.result (c.add_told.new.to.items ≡ l)) (ap (λ (l : List ℕ). l ++ last) until ∙ joined c.args.to.now.items first (until_text op.end) last)
    c.add_told.ensures
