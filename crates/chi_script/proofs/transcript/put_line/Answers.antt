-- a line is the request's fields and then what became of it
use Rattle.chi_script.specs.Transcript.{line_text}
use Rattle.chi_script.proofs.WriterBytesLemmas.{cut_before, writes_both}
use Rattle.chi_script.proofs.transcript.put_line.Goals as goal

pub returns-in_err-put_request : goal.returns-in_err-put_request
unfolding line_text
returns-in_err-put_request g c =
    cut_before _ _ _ _ _ _ _ c.from_residual.ensures.0
    (rw c.request_of_line.ensures at c.in_err-put_request.ensures)

pub returns : goal.returns
unfolding line_text
returns g c =
    writes_both _ _ _ _ _ _ _ _ _ (rw c.request_of_line.ensures at c.in_ok-put_request.ensures) c.put_outcome.ensures
