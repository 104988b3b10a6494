-- The number is the one that was found, where one was.
use Rattle.clap.specs.Matches.{found_of}
use Rattle.chi_program.proofs.OptionValuesLemmas.{number_or_none}
use Rattle.chi_program.proofs.option_values.number_given.Goals as goal

pub returns : goal.returns
returns c = number_or_none (found_of c.args.chosen.now) c.args.option.now c.get_one.result c.get_one.ensures.none c.get_one.ensures.value
