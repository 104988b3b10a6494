-- The law is a lemma.
use Rattle.std.proofs.Common.{[], ◌∷◌}
use Rattle.chi_history.specs.History.{end_from, opening_memory}
use Rattle.chi_history.proofs.HistoryLemmas.{legal-back, legal_entry}
use Rattle.chi_history.proofs.WordLemmas.{word-snoc_other}
use Rattle.chi_history.proofs.laws.entry_changes_own_granule_alone.Goals as goal

pub returns : goal.returns
returns c o h e g region legal other =
    let last = legal-back o (opening_memory o) h (e ∷ []) legal in
    let entry = legal_entry o (end_from (opening_memory o) h) e last in
    word-snoc_other o h e g region entry.lawful entry.inside other
