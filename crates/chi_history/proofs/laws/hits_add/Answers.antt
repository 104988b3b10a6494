-- The law is a lemma.
use Rattle.std.proofs.Common.{◌∙◌, ◌+◌, ap, sym}
use Rattle.chi_lanes.specs.Memory.{Memory}
use Rattle.chi_history.specs.History.{end, hits_from, opening_memory}
use Rattle.chi_history.proofs.HistoryLemmas.{hits-append, end_from-append}
use Rattle.chi_history.proofs.laws.hits_add.Goals as goal

pub returns : goal.returns
returns c o h x y g held = hits-append o (end o h) x y g held ∙ ap (λ (m : Memory). hits_from o (end o h) x g held + hits_from o m y g held) (sym (end_from-append (opening_memory o) h x))
