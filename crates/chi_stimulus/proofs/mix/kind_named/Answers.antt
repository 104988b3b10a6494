-- the place of a kind
use Rattle.std.proofs.Common.{rules, tests}
use Rattle.std.specs.Str.{bytes_eq}
use Rattle.std.proofs.lemmas.Iterator.{YieldsList-from_slice}
use Rattle.std.proofs.lemmas.Iterator.Search.{position_from_yields_List}
use Rattle.chi_stimulus.proofs.mix.kind_named.Goals as goal

pub returns-clause-kind : goal.returns-clause-kind
returns-clause-kind c = position_from_yields_List (λ k. bytes_eq c.args.name.now k.now) _ _ c.position.result c.position.ensures.ran (YieldsList-from_slice _ c.iter.ensures.rest) (λ x b q k. search (rules, tests))
