-- one part after the other
use Rattle.std.proofs.Common.{append_assoc, append-nil}
use Rattle.chi_watch_text.specs.Summaries.{waiting_json}
use Rattle.chi_watch_text.proofs.summary_json.add_waiting.Goals as goal

pub returns : goal.returns
unfolding waiting_json
returns c = simp (c.in_ok-add_parts.ensures, c.in_ok-add_request_members.ensures, c.waits_name.ensures, append_assoc, append-nil) at c.add_parts-2.ensures
