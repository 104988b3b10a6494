-- what `starts_with` says of a text, as the function of lists
use Rattle.std.proofs.Common.{codes}
use Rattle.std.proofs.lemmas.Str.Pattern.{starts_text}
use Rattle.chi_json.proofs.unknown.is_ignored.Goals as goal

pub returns : goal.returns
returns c = starts_text _ (codes "x-") c.args.name.now c.starts_with.ensures.cases
