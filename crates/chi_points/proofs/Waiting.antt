-- what is left where no slot is told: all that waits
use Rattle.std.proofs.Common.{◌≡◌, List, [], ◌∷◌, ap, refl}
use Rattle.chi_points.specs.declared.slot.Noted.{Noted}
use Rattle.chi_points.specs.Points.{PointsValue, left_after, noted_after}

all_noted : (noted : List Noted) → noted_after [] noted ≡ noted
all_noted [] = refl
all_noted (n ∷ noted) = ap (λ l. n ∷ l) (all_noted noted)

pub whole_left : (w : PointsValue) → left_after [] w ≡ w
whole_left w = ap (λ l. record w { noted = l }) (all_noted w.noted)
