-- one part after the other
use Rattle.std.proofs.Common.{append_assoc, append-nil}
use Rattle.chi_watch_text.specs.Summaries.{summary_json}
use Rattle.chi_watch_text.proofs.summary_json.add_summary_json.Goals as goal

pub returns : goal.returns
unfolding summary_json
returns c =
    simp (c.in_ok-add_parts.ensures, c.in_ok-add_finding.ensures, c.verdict.ensures, c.in_ok-add_counts.ensures, c.deref.ensures.value, c.in_ok-add_granules.ensures, c.in_ok-add_parts-2.ensures, c.in_ok-add_missing.ensures, append_assoc, append-nil) at c.add_parts-3.ensures
