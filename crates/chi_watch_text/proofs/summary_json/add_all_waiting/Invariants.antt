-- the texts so far
use Rattle.std.proofs.Common.{◌≡◌, ◌++◌}
use Rattle.std.specs.Prelude.{slice_get}
use Rattle.chi_page.specs.Listed.{comma, listed}
use Rattle.chi_watch_text.specs.Summaries.{waiting_at}
use Rattle.chi_watch_text.proofs.summary_json.add_all_waiting.Given as goal

abbrev pub invariant-loop-number : goal.invariant-loop-number
invariant-loop-number l = l.to.items ≡ l.initial.to.items ++ listed comma (λ n. waiting_at (slice_get l.waiting n)) l.number
