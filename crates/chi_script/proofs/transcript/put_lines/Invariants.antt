-- the lines so far are in the writer and the page
use Rattle.std.proofs.Common.{drop}
use Rattle.chi_script.specs.Transcript.{text}
use Rattle.chi_script.proofs.WriterBytesLemmas.{Leads}
use Rattle.chi_script.proofs.transcript.put_lines.Given as goal

abbrev pub invariant-lines : goal.invariant-lines
invariant-lines g l =
    Leads (g.W.Write.contents l.initial.to) l.initial.page (g.W.Write.contents l.to) l.page
    (text (drop l.line-index l.lines)) (text l.lines)
