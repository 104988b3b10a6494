-- each write adds what it took, and a fault leaves a prefix
use Rattle.chi_script.proofs.WriterBytesLemmas.{front_cut, taken_kept, taken_more, within_more}
use Rattle.chi_script.proofs.device.write_bytes.Goals as goal

pub returns-in-Ok-eq0 : goal.returns-in-Ok-eq0
returns-in-Ok-eq0 g c =
    front_cut _ _ _ c.args.bytes.now c.writing.at c.writing.invariant.taken
    (rw c.in-Ok-eq0.field-0-test at c.in-Ok-eq0.ensures.bytes)

pub writing-preserved : goal.writing-preserved
writing-preserved g c = record {
  within = within_more c.args.bytes.now c.writing.at c.in-Ok.n c.writing.invariant.within c.in-Ok.ensures.bound;
  taken = taken_more _ _ _ c.args.bytes.now c.writing.at c.in-Ok.n c.writing.invariant.taken c.in-Ok.ensures.bytes;
}

pub returns-in-Err : goal.returns-in-Err
returns-in-Err g c =
    front_cut _ _ _ c.args.bytes.now c.writing.at c.writing.invariant.taken (taken_kept _ _ c.in-Err.ensures.bytes)
