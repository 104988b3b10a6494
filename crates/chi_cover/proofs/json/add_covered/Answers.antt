-- the counts as they are promised
use Rattle.chi_cover.specs.Json.{covered_json}
use Rattle.chi_cover.proofs.json.add_covered.Goals as goal

pub returns : goal.returns
unfolding covered_json
returns c = rw (c.covered.ensures.value, c.wanted.ensures.value, c.percent.ensures, c.goal.ensures) at c.add_parts.ensures
