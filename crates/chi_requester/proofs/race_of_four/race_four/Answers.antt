-- no memory for the racers, or a race of the four
use Rattle.std.proofs.Common.{◌≡◌, sym, ap, ◌∙◌, [], ◌∷◌, ◌++◌, length, get_or}
use Rattle.chi_requester.proofs.RaceLemmas.{race_unbegun}
use Rattle.chi_requester.proofs.RacerLemmas.{get_or-fourth, get_or-second, get_or-third, lines_of_four_racers}
use Rattle.chi_requester.proofs.race_of_four.race_four.Goals as goal

pub returns-in_default-clause-race : goal.returns-in_default-clause-race
returns-in_default-clause-race g c =
    let laws = g.met.H.Home g.world.𝓛 g.world.𝓜 g.world.𝓡 ((λ s x. x), (λ x. x), (λ x. x), λ x. x) in
    race_unbegun _ _ _ 4 _ _ _ _ (laws.seen_is_legal c.args.home.now c.args.seat.now c.requires.own) c.unexecuted.ensures.none c.unexecuted.ensures.some c.requires.known

pub race-outcome-requires-clause-known : goal.race-outcome-requires-clause-known
race-outcome-requires-clause-known g c κs lives =
    let first = c.push_reserved.ensures.items ∙ ap (λ xs. xs ++ c.taking.result ∷ []) c.in-Ok.ensures.items in
    let second = c.push_reserved-2.ensures.items ∙ ap (λ xs. xs ++ c.taking-2.result ∷ []) first in
    let third = c.push_reserved-3.ensures.items ∙ ap (λ xs. xs ++ c.taking-3.result ∷ []) second in
    let racers = c.as_mut_slice-racers.ensures.value ∙ (c.push_reserved-4.ensures.items ∙ ap (λ xs. xs ++ c.taking-4.result ∷ []) third) in
    rw racers c.requires.known

pub returns-clause-race : goal.returns-clause-race
returns-clause-race g c =
    let x = c.taking.result in
    let first = c.push_reserved.ensures.items ∙ ap (λ xs. xs ++ x ∷ []) c.in-Ok.ensures.items in
    let second = c.push_reserved-2.ensures.items ∙ ap (λ xs. xs ++ c.taking-2.result ∷ []) first in
    let third = c.push_reserved-3.ensures.items ∙ ap (λ xs. xs ++ c.taking-3.result ∷ []) second in
    let racers = c.as_mut_slice-racers.ensures.value ∙ (c.push_reserved-4.ensures.items ∙ ap (λ xs. xs ++ c.taking-4.result ∷ []) third) in
    let one = ap (λ xs. (get_or xs 0 x).lines.items) racers ∙ ap (λ v. v.items) c.taking.ensures in
    let two = ap (λ xs. (get_or xs 1 x).lines.items) racers ∙ ap (λ v. v.items) c.taking-2.ensures in
    let three = ap (λ xs. (get_or xs 2 x).lines.items) racers ∙ ap (λ v. v.items) c.taking-3.ensures in
    let four = ap (λ xs. (get_or xs 3 x).lines.items) racers ∙ ap (λ v. v.items) c.taking-4.ensures in
    let long : length c.as_mut_slice-racers.result.now ≡ 4 = ap length racers in
    let before = lines_of_four_racers c.args.race.now.zero.items _ _ _ _ c.as_mut_slice-racers.result.now x x x x long (sym one) (sym two) (sym three) (sym four) in
    let ended = c.race-outcome.new.racers in
    let new_one = ap (λ v. v.items) c.swap.ensures.x_after in
    let new_two = ap (λ v. v.items) (c.swap-2.ensures.x_after ∙ ap (λ racer. racer.lines) (get_or-second ended _ _)) in
    let new_three = ap (λ v. v.items) (c.swap-3.ensures.x_after ∙ ap (λ racer. racer.lines) (get_or-third ended _ _ _)) in
    let new_four = ap (λ v. v.items) (c.swap-4.ensures.x_after ∙ ap (λ racer. racer.lines) (get_or-fourth ended _ _ _ _)) in
    let after = lines_of_four_racers c.race-outcome.new.zero.items _ _ _ _ ended _ _ _ _ (c.race-outcome.auto.racers ∙ long) new_one new_two new_three new_four in
    rw (long, before, after) at c.race-outcome.ensures.race
