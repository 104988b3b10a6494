-- what is read, and that nothing is read where the error is not out of memory
use Rattle.chi_json.proofs.ValueLemmas.{value_of_utf8, value_of_none}
use Rattle.chi_json.proofs.text.json.Goals as goal

pub returns-in-Ok : goal.returns-in-Ok
returns-in-Ok c = value_of_utf8 _ _ c.in-Ok.ensures.ok.0 c.in-Ok.ensures.ok.1

pub returns-in-Err-2 : goal.returns-in-Err-2
returns-in-Err-2 c = value_of_none _ (c.in-Err.ensures.err (λ memory. let yes = c.is_memory.ensures.1 memory in let no = c.if-is_memory.false in cc))
