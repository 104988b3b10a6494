-- one part after the other
use Rattle.std.proofs.Common.{append_assoc, append-nil}
use Rattle.chi_watch_text.specs.Summaries.{counts_members}
use Rattle.chi_watch_text.proofs.summary_json.add_counts.Goals as goal

pub returns : goal.returns
unfolding counts_members
returns c = simp (c.in_ok-add_parts.ensures, c.in_ok-add_all_waiting.ensures, append_assoc, append-nil) at c.add_parts-2.ensures
