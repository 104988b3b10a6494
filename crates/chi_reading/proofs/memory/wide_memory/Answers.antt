-- the text's lists, and that the words are theirs
use Rattle.std.proofs.Common.{refl}
use Rattle.chi_json.proofs.WalkLemmas.{at_ok, no_fault}
use Rattle.chi_reading.proofs.RegionText.{wide_text}
use Rattle.chi_reading.proofs.memory.wide_memory.Goals as goal

pub returns-clause-ok : goal.returns-clause-ok
returns-clause-ok c =
    let opening = at_ok _ _ _ (no_fault _ _ _ c.in_ok-opening.ensures) c.stated_list.ensures.ok in
    let final_words = at_ok _ _ _ (no_fault _ _ _ c.in_ok-final_words.ensures) c.stated_list-2.ensures.ok in
    (_, wide_text _ _ _ opening.1 final_words.1, record { region = refl; opening = opening.2; final_words = final_words.2 })
