-- the parts are the line, where it has to stand
use Rattle.std.proofs.Common.{append_assoc, append-nil, sym}
use Rattle.chi_watch_text.specs.Texts.{quiet_line}
use Rattle.chi_watch_text.proofs.required_lines.add_quiet.Goals as goal

pub returns-then-not-is_missing : goal.returns-then-not-is_missing
unfolding quiet_line
returns-then-not-is_missing c = rw c.if-not-is_missing.true (sym (append-nil c.args.to.now.items))

pub returns : goal.returns
unfolding quiet_line
returns c = rw c.if-not-is_missing.false (simp append_assoc (rw c.are.ensures at (simp append-nil at c.add_parts.ensures)))
