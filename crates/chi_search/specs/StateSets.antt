-- sets of states of a search
use Rattle.std.specs.Prelude.{List, [], ◌∷◌, ◌++◌, map}
use Rattle.std.specs.List.{Contains}
use Rattle.chi_search.specs.declared.narrow.NarrowState.{NarrowState}
use Rattle.chi_search.specs.declared.states.States.{States}
use Rattle.chi_search.specs.Positions.{Position, position_of}

-- where a state is whose set is one word
abbrev pub position_of_narrow : NarrowState → Position
position_of_narrow s = record { first = s.first; settled = s.settled ∷ []; word = s.word }

-- where all states are
abbrev pub positions : States → List Position
positions states = map position_of_narrow states.narrow.states.items ++ map position_of states.wide.states.items

-- some state is there
abbrev pub Has : States → Position → Type 0
Has states p = Contains (positions states) p
