-- the lines, the memory, and then what is left in the page
use Rattle.chi_script.proofs.WriterBytesLemmas.{moves_then, puts_before, puts_after, puts_all}
use Rattle.chi_script.proofs.transcript.write_transcript.Goals as goal

pub returns-in_err-put_lines : goal.returns-in_err-put_lines
returns-in_err-put_lines g c =
    puts_before _ _ _ _ _ _ c.from_residual.ensures.0 c.new-page.ensures c.in_err-put_lines.ensures

pub returns-in_err-put_memory : goal.returns-in_err-put_memory
returns-in_err-put_memory g c =
    puts_after _ _ _ _ _ _ _ _ c.from_residual-in_err-put_memory.ensures.0 c.new-page.ensures
    c.in_ok-put_lines.ensures (rw c.base.ensures.value at c.in_err-put_memory.ensures)

pub returns : goal.returns
returns g c =
    puts_all _ _ _ _ _ _ _ _ c.new-page.ensures
    (moves_then _ _ _ _ _ _ _ _ c.in_ok-put_lines.ensures (rw c.base.ensures.value at c.in_ok-put_memory.ensures))
    c.put_page.ensures.writes c.put_page.ensures.empty
