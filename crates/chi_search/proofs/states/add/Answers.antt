-- one state more of one of the two sets
use Rattle.std.proofs.Common.{◌≡◌, ◌++◌, ◌∷◌, [], ap, ◌∙◌}
use Rattle.std.specs.Prelude.{map}
use Rattle.std.proofs.lemmas.List.{map-append}
use Rattle.std.proofs.lemmas.Result.{on_ok_weaker}
use Rattle.chi_search.specs.Positions.{position_of}
use Rattle.chi_search.specs.StateSets.{position_of_narrow}
use Rattle.chi_search.proofs.Sets.{longer_first, longer_second, more_first, more_second, none_counted}
use Rattle.chi_search.proofs.states.add.Goals as goal

pub returns-then-is_empty-clause-has : goal.returns-then-is_empty-clause-has
returns-then-is_empty-clause-has c =
    let beyond = c.args.state.now.settled.beyond in
    let same = c.narrow_of.ensures (none_counted beyond.items beyond.len c.is_empty.result beyond.ok.0 c.is_empty.ensures c.if-is_empty.true) in
    let old = c.args.states.now.narrow.states.items in
    let new = c.add_narrow.new.narrow.states.items in
    let wide = map position_of c.args.states.now.wide.states.items in
    on_ok_weaker c.add_narrow.result (λ (is : new ≡ old ++ c.narrow_of.result ∷ []). more_first (map position_of_narrow old) (map position_of_narrow new) wide (position_of c.args.state.now)
    (ap (map position_of_narrow) is ∙ (map-append position_of_narrow old (c.narrow_of.result ∷ []) ∙ ap (λ p. map position_of_narrow old ++ p ∷ []) same)))
    c.add_narrow.ensures

pub returns-then-is_empty-clause-count : goal.returns-then-is_empty-clause-count
returns-then-is_empty-clause-count c =
    let old = c.args.states.now.narrow.states.items in
    let new = c.add_narrow.new.narrow.states.items in
    let wide = map position_of c.args.states.now.wide.states.items in
    on_ok_weaker c.add_narrow.result (λ (is : new ≡ old ++ c.narrow_of.result ∷ []). longer_first (map position_of_narrow old) (map position_of_narrow new) wide (position_of_narrow c.narrow_of.result)
    (ap (map position_of_narrow) is ∙ map-append position_of_narrow old (c.narrow_of.result ∷ [])))
    c.add_narrow.ensures

pub returns-else-is_empty-clause-count : goal.returns-else-is_empty-clause-count
returns-else-is_empty-clause-count c =
    on_ok_weaker c.add_wide.result (longer_second (map position_of_narrow c.args.states.now.narrow.states.items) (map position_of c.args.states.now.wide.states.items)
    (map position_of c.add_wide.new.wide.states.items) (position_of c.args.state.now))
    c.add_wide.ensures

pub returns-else-is_empty-clause-has : goal.returns-else-is_empty-clause-has
returns-else-is_empty-clause-has c =
    on_ok_weaker c.add_wide.result (more_second (map position_of_narrow c.args.states.now.narrow.states.items) (map position_of c.args.states.now.wide.states.items)
    (map position_of c.add_wide.new.wide.states.items) (position_of c.args.state.now))
    c.add_wide.ensures
