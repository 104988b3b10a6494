-- the parts so far are in the writer and the page
use Rattle.std.proofs.Common.{drop}
use Rattle.std.specs.List.{flat_map}
use Rattle.chi_text.specs.Part.{part_text}
use Rattle.chi_script.proofs.WriterBytesLemmas.{Leads}
use Rattle.chi_script.proofs.parts.put_parts.Given as goal

abbrev pub invariant-parts : goal.invariant-parts
invariant-parts g l =
    Leads (g.W.Write.contents l.initial.to) l.initial.page (g.W.Write.contents l.to) l.page
    (flat_map part_text (drop l.part-index l.parts)) (flat_map part_text l.parts)
