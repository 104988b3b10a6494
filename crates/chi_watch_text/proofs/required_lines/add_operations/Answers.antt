-- the parts are the line, where it has to stand
use Rattle.std.proofs.Common.{append_assoc, append-nil, ne_eqb, sym}
use Rattle.chi_watch_text.specs.Texts.{operations_line}
use Rattle.chi_watch_text.proofs.required_lines.add_operations.Goals as goal

pub returns-then-required-eq0 : goal.returns-then-required-eq0
unfolding operations_line
returns-then-required-eq0 c = rw c.if-required-eq0.true (sym (append-nil c.args.to.now.items))

pub returns : goal.returns
unfolding operations_line
returns c = rw (ne_eqb c.args.required 0 c.if-required-eq0.false) (simp append_assoc (rw c.operations.ensures at (simp append-nil at c.add_parts.ensures)))
