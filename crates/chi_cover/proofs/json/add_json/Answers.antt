-- one part after the other
use Rattle.std.proofs.Common.{append_assoc, append-nil}
use Rattle.chi_cover.specs.Json.{cover_json}
use Rattle.chi_cover.proofs.json.add_json.Goals as goal

pub returns : goal.returns
unfolding cover_json
returns c =
    simp (
      c.in_ok-add_parts.ensures,
      c.in_ok-add_covered.ensures,
      c.in_ok-add_plan.ensures,
      c.rules.ensures,
      c.in_ok-add_added.ensures,
      c.in_ok-add_parts-2.ensures,
      c.in_ok-add_groups.ensures,
      c.in_ok-add_parts-3.ensures,
      c.in_ok-add_reasons.ensures,
      append_assoc,
      append-nil,
    )
    at c.add_parts-4.ensures
