-- a state that one of the two sets has
use Rattle.std.proofs.Common.{subst}
use Rattle.std.specs.Prelude.{map}
use Rattle.std.specs.List.{Contains}
use Rattle.std.proofs.lemmas.List.Elements.{Contains-append_left, Contains-append_right}
use Rattle.chi_search.specs.Positions.{position_of}
use Rattle.chi_search.specs.StateSets.{position_of_narrow}
use Rattle.chi_search.proofs.Sets.{Contains-map, none_counted}
use Rattle.chi_search.proofs.states.has.Goals as goal

pub returns-then-is_empty : goal.returns-then-is_empty
returns-then-is_empty c found =
    let beyond = c.args.state.now.settled.beyond in
    let same = c.narrow_of.ensures (none_counted beyond.items beyond.len c.is_empty.result beyond.ok.0 c.is_empty.ensures c.if-is_empty.true) in
    let narrow = c.args.states.now.narrow.states.items in
    subst (Contains _) same
    (Contains-append_left (map position_of_narrow narrow) _ _ (Contains-map position_of_narrow narrow c.narrow_of.result (c.has_narrow.ensures found)))

pub returns-else-is_empty : goal.returns-else-is_empty
returns-else-is_empty c found =
    Contains-append_right (map position_of_narrow c.args.states.now.narrow.states.items) (map position_of c.args.states.now.wide.states.items)
    (position_of c.args.state.now) (c.has_wide.ensures found)
