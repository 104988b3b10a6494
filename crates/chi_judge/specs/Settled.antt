-- a granule whose operations are settled: its word is all that is kept
use Rattle.std.specs.Prelude.{[], false, Some}
use Rattle.chi_search.specs.Frontiers.{only_at}
use Rattle.chi_judge.specs.Judges.{JudgeValue}
use Rattle.chi_judge.specs.declared.settled.Settled.{Settled}

-- All that was told leads to this word and no other, and is settled: none that is told later starts before the horizon, or ends
-- before the latest end. None of it is shown.
abbrev pub judge_of : Settled → JudgeValue
judge_of s = record {
  before = only_at s.word s.horizon s.latest;
  left = [];
  shown = 0;
  kept = [];
  ahead = [];
  seen = 0;
  word = Some s.word;
  since = s.horizon;
  horizon = s.horizon;
  latest = s.latest;
  is_stopped = false;
}
