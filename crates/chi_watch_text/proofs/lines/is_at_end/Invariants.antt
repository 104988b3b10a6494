-- what was read so far is blank
use Rattle.chi_watch_text.proofs.Blank.{IsBlankIf}
use Rattle.chi_watch_text.proofs.lines.is_at_end.Given as goal

abbrev pub invariant-loop : goal.invariant-loop
invariant-loop g l = IsBlankIf (g.R.Read.remaining l.initial.from) (g.R.Read.remaining l.from)
