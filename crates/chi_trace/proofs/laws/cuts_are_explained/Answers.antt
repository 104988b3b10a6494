-- A trace that is explained is so up to each time.
use Rattle.chi_trace.proofs.Before.{before}
use Rattle.chi_trace.proofs.CutLaw.{cut_is_explained}
use Rattle.chi_trace.proofs.laws.cuts_are_explained.Goals as goal

pub returns : goal.returns
returns c opening final_words trace order time is e = (before trace time order, cut_is_explained opening final_words trace order time is e)
