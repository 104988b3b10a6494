-- the memory lines so far are in the writer and the page
use Rattle.std.proofs.Common.{◌≡◌, ◌+◌, ◌*◌, drop}
use Rattle.chi_script.specs.Transcript.{granules_text}
use Rattle.chi_script.proofs.WriterBytesLemmas.{Leads}
use Rattle.chi_script.proofs.transcript.put_memory.Given as goal

abbrev pub invariant-words : goal.invariant-words
invariant-words g l = record {
  reached : l.addr ≡ l.base + 8 * l.word-index;
  leads : Leads (g.W.Write.contents l.initial.to) l.initial.page (g.W.Write.contents l.to) l.page
      (granules_text l.addr (drop l.word-index l.words)) (granules_text l.base l.words);
}
