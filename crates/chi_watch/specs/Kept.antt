-- what is kept of a granule that is watched
use Rattle.std.specs.Prelude.{ℕ, [], Option, None, Some}
use Rattle.chi_judge.specs.Settled.{judge_of}
use Rattle.chi_judge.specs.declared.settled.Settled.{Settled}
use Rattle.chi_watch.specs.Followed.{FollowedValue}
use Rattle.chi_watch.specs.declared.kept.Kept.{Kept}
use Rattle.chi_watch.specs.declared.kept.Kept.TheVariants as kept

-- what is followed of a settled granule: all that wrote to it is told
abbrev pub followed_settled : Settled → Option ℕ → FollowedValue
followed_settled s final_word = record {
  judge = judge_of s;
  final_word = final_word;
  unknown_since = None;
  gaps = [];
  last = s.latest;
}

abbrev pub followed_of : Kept → FollowedValue
followed_of (kept.Followed followed) = followed.value
followed_of (kept.Settled settled) = followed_settled settled None
followed_of (kept.Ended settled) = followed_settled settled (Some settled.word)
