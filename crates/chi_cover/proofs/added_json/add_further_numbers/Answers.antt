-- one number more
use Rattle.chi_cover.specs.Json.{further, number_json}
use Rattle.chi_text.proofs.Growing.{all_parts, part_more}
use Rattle.chi_cover.proofs.added_json.add_further_numbers.Goals as goal

pub loop-number-preserved : goal.loop-number-preserved
loop-number-preserved c =
    part_more (further number_json) c.args.to.now.items c.args.numbers.now c.loop-number.number-index _ c.loop-number.to.items c.add_further_number.new.to.items c.loop-number-test.true c.loop-number.invariant c.in_ok-add_further_number.ensures

pub returns : goal.returns
returns c = all_parts (further number_json) c.args.to.now.items c.args.numbers.now c.loop-number.number-index c.loop-number.to.items c.loop-number-test.false c.loop-number.invariant
