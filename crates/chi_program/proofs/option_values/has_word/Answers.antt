-- The value is the first one that was found.
use Rattle.std.proofs.Common.{ap, ◌∙◌, false}
use Rattle.std.specs.Option.{option_map_or}
use Rattle.std.specs.Str.{bytes_eq}
use Rattle.chi_program.proofs.option_values.has_word.Goals as goal

pub returns-in-Some : goal.returns-in-Some
returns-in-Some c = c.eq.ensures ∙ ap (λ value. option_map_or (λ t. bytes_eq t c.args.word.now) value false) c.in-Some.ensures

pub returns-in-None : goal.returns-in-None
returns-in-None c = ap (λ value. option_map_or (λ t. bytes_eq t c.args.word.now) value false) c.in-None.ensures
