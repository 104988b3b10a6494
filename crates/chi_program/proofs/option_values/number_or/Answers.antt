-- The number is the one that was found.
use Rattle.clap.specs.Matches.{found_of}
use Rattle.clap.specs.Walk.{one_of, rows_of}
use Rattle.chi_program.proofs.OptionValuesLemmas.{number_or_other}
use Rattle.chi_program.proofs.option_values.number_or.Goals as goal

pub returns : goal.returns
returns c = rw c.unwrap_or.ensures (number_or_other c.args.other (one_of c.args.option.now (rows_of (found_of c.args.chosen.now))) c.number_given.result c.number_given.ensures)
