-- what is told is the front of the slots, and what is noted goes with its request
use Rattle.std.proofs.Common.{ap, length, not, sym}
use Rattle.std.specs.List.{prefix_len}
use Rattle.std.proofs.lemmas.List.{take-append-drop}
use Rattle.std.proofs.lemmas.List.Folds.{length-prefix_len}
use Rattle.chi_points.specs.Known.{owner}
use Rattle.chi_points.specs.Points.{has_point, is_ready, ready}
use Rattle.chi_points.proofs.KindsLeft.{all_left, none_left, of_others, of_owner}
use Rattle.chi_points.proofs.OnePoint.{after_flit, after_other, after_point, of_fewer}
use Rattle.chi_points.proofs.laws.requests_are_told_once.Goals as goal

pub returns : goal.returns
returns c = (
  λ w. record {
    in_order = rw (length-prefix_len (is_ready w.noted) w.slots) (sym (take-append-drop (prefix_len (is_ready w.noted) w.slots) w.slots));
    of_told = λ place has. none_left (λ m. not (has_point (ready w) m)) place (ap not has) w.noted;
    of_others = λ place none. all_left (λ m. not (has_point (ready w) m)) place (ap not none) w.noted;
  },
  λ time kinds w. record { of_owner = λ place is. of_owner time kinds w (owner kinds) place is; of_others = λ place differ. of_others time kinds w (owner kinds) place differ },
  λ w one. record {
    with_flit = λ time kinds. after_flit time kinds (owner kinds) w one;
    with_other = λ e. after_other e w one;
    with_one_more = λ time place. after_point time place w one;
    with_less = of_fewer (length (ready w)) w.slots one;
  },
)
