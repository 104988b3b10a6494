-- the only state of a set
use Rattle.std.proofs.Common.{◌≡◌, List, [], ◌∷◌, length, Some, arith}
use Rattle.std.specs.Prelude.{slice_get}
use Rattle.chi_search.specs.Positions.{position_of}
use Rattle.chi_search.specs.StateSets.{positions}
use Rattle.chi_search.proofs.only_word.single.Goals as goal

-- a list of one element that has this one first
only_element : {X : Type 0} (xs : List X) (x : X) → length xs ≡ 1 → slice_get xs 0 ≡ Some x → xs ≡ x ∷ []
only_element [] x one first = absurd (omega (arith, one))
only_element (y ∷ []) x one first = cc
only_element (y ∷ z ∷ ys) x one first = absurd (omega (arith, one))

pub returns-clause-single : goal.returns-clause-single
returns-clause-single c =
    only_element (positions c.args.states.now) (position_of c.read.new.to) (omega (arith, c.count.ensures, c.if-count-ne1.false)) c.in_ok-read.ensures
