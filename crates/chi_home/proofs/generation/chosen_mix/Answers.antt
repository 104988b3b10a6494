-- The text is the first one that was found.
use Rattle.std.proofs.Common.{ap, codes, ◌∙◌}
use Rattle.std.specs.Prelude.{unwrap_or}
use Rattle.clap.specs.Matches.{found_of}
use Rattle.clap.proofs.WalkLemmas.{first_value-rows}
use Rattle.chi_home.specs.CommandLine.{default_mix}
use Rattle.chi_home.proofs.generation.chosen_mix.Goals as goal

pub returns-in-Some : goal.returns-in-Some
returns-in-Some c = ap (λ text. unwrap_or text default_mix) (c.in-Some.ensures ∙ first_value-rows (found_of c.args.chosen.now) (codes "mix"))

pub returns-in-None : goal.returns-in-None
returns-in-None c = ap (λ text. unwrap_or text default_mix) (c.in-None.ensures ∙ first_value-rows (found_of c.args.chosen.now) (codes "mix"))
