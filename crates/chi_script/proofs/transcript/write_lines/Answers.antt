-- the lines, and then what is left in the page
use Rattle.chi_script.proofs.WriterBytesLemmas.{puts_all}
use Rattle.chi_script.proofs.transcript.write_lines.Goals as goal

pub returns : goal.returns
returns g c =
    puts_all _ _ _ _ _ _ _ _ c.new-page.ensures c.in_ok-put_lines.ensures c.put_page.ensures.writes
    c.put_page.ensures.empty
