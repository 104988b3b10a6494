-- each granule is one step of the loop
use Rattle.std.proofs.Common.{drop, ◌+◌, arith}
use Rattle.std.proofs.lemmas.List.{at_drop_more, at_drop_all}
use Rattle.chi_script.specs.Transcript.{granules_text}
use Rattle.chi_script.proofs.WriterBytesLemmas.{leads_start, leads_next, leads_cut, leads_end}
use Rattle.chi_script.proofs.transcript.put_memory.Goals as goal

pub words-init : goal.words-init
words-init g c = record { reached = omega arith; leads = leads_start _ _ _ }

pub returns-in_err-put_granule : goal.returns-in_err-put_granule
returns-in_err-put_granule g c =
    leads_cut _ _ _ _ _ _ _ _ (granules_text (c.words.addr + 8) (drop (c.words.word-index + 1) c.args.words.now)) _ _
    c.from_residual.ensures.0 c.words.invariant.leads c.in_err-put_granule.ensures
    (at_drop_more (granules_text c.words.addr) c.args.words.now c.words.word-index 0 c.words-test.true)

pub words-preserved : goal.words-preserved
words-preserved g c = record {
  reached = omega arith;
  leads = leads_next _ _ _ _ _ _ _ _ _ _ c.words.invariant.leads c.in_ok-put_granule.ensures
      (at_drop_more (granules_text c.words.addr) c.args.words.now c.words.word-index 0 c.words-test.true);
}

pub returns : goal.returns
returns g c =
    leads_end _ _ _ _ _ _ c.words.invariant.leads (at_drop_all (granules_text c.words.addr) _ _ c.words-test.false)
