-- each element of the list in turn
use Rattle.std.proofs.Common.{◌≡◌, ℕ, List, [], Some, refl, ◌∙◌, rules}
use Rattle.std.proofs.lemmas.Result.{IfOk-weaker}
use Rattle.serde_json.specs.View.{items_view}
use Rattle.chi_reading.specs.Told.{told_from}
use Rattle.chi_reading.proofs.ToldSoFar.{all_so_far, none_so_far, none_told, told_again, told_next}
use Rattle.chi_trace.specs.declared.words.GranuleWord.{GranuleWord}
use Rattle.chi_trace.specs.Words.{find_word}
use Rattle.chi_reading.proofs.told.told_list.Goals as goal

pub loop-value-init : goal.loop-value-init
loop-value-init c = none_so_far c.new-map.result c.args.list.now c.new-map.ensures.empty

pub returns-in_default-clause-fault : goal.returns-in_default-clause-fault
returns-in_default-clause-fault c other =
    (refl, none_told _ c.args.list.now _ c.value-item.result c.loop-value.invariant c.loop-value-test.true c.value-item.is c.in_default.ensures)

pub returns-in-Ok-Some-clause-fault : goal.returns-in-Ok-Some-clause-fault
returns-in-Ok-Some-clause-fault c other =
    let again = told_again _ c.args.list.now _ c.value-item.result c.loop-value.invariant c.loop-value-test.true c.value-item.is c.in-Some.told _ _ c.in-Some.ensures in
    (refl, again c.in-Ok-Some.ensures.old c.in-Ok-Some.field-0-is)

pub loop-value-preserved : goal.loop-value-preserved
loop-value-preserved c =
    told_next _ c.args.list.now _ c.value-item.result c.loop-value.invariant c.loop-value-test.true c.value-item.is
    c.in-Some.told _ c.insert.new.self c.in-Some.ensures c.in-Ok-None.ensures.old c.in-Ok-None.field-0-is c.in-Ok-None.ensures.updates.0

pub returns-clause-ok : goal.returns-clause-ok
returns-clause-ok c =
    let so_far = c.loop-value.invariant in
    let list = all_so_far c.loop-value.map c.args.list.now c.loop-value.value-index so_far c.loop-value-test.false in
    let all = IfOk-weaker c.of_map.result _ (λ words. (each : List GranuleWord) × (told_from [] (items_view c.args.list.now) ≡ Some each) × ((g : ℕ) → find_word words g ≡ find_word each g))
    (λ words is. (so_far.seen, list, λ g. is g ∙ so_far.has g)) c.of_map.ensures in
    search (rules, all)
