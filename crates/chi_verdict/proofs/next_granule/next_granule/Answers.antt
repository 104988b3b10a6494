-- the least granule that is still to come
use Rattle.std.proofs.Common.{ℕ, ◌<◌, min, arith}
use Rattle.chi_verdict.specs.declared.grouping.Placed.{Placed}
use Rattle.chi_trace.specs.declared.words.GranuleWord.{GranuleWord}
use Rattle.chi_verdict.proofs.Ahead.{below_first, none_left, of_first, words_up}
use Rattle.chi_verdict.proofs.next_granule.next_granule.Goals as goal

pub returns-in-Some-Some-clause-least : goal.returns-in-Some-Some-clause-least
returns-in-Some-Some-clause-least c h less =
    let below : h < min c.in-Some-Some.placed.now.granule c.in-Some-Some.last.now.granule = omega (arith, less, c.min.ensures) in (
      below_first (λ (p : Placed). p.granule) _ _ _ c.requires.places c.in-Some-Some.ensures.lookup.3 h (omega (arith, below)),
      below_first (λ (w : GranuleWord). w.granule) _ _ _ (words_up _ c.requires.final_words) c.in-Some-Some.ensures'.lookup.3 h (omega (arith, below)),
    )

pub returns-in-Some-Some-clause-there : goal.returns-in-Some-Some-clause-there
returns-in-Some-Some-clause-there c past =
    let place : c.min.result < c.in-Some-Some.placed.now.granule = of_first (λ (p : Placed). c.min.result < p.granule) _ _ _ past.0 c.in-Some-Some.ensures.lookup.3 in
    let word : c.min.result < c.in-Some-Some.last.now.granule = of_first (λ (w : GranuleWord). c.min.result < w.granule) _ _ _ past.1 c.in-Some-Some.ensures'.lookup.3 in
    omega (arith, place, word, c.min.ensures)

pub returns-in-Some-None-clause-least : goal.returns-in-Some-None-clause-least
returns-in-Some-None-clause-least c h less = (
  below_first (λ (p : Placed). p.granule) _ _ _ c.requires.places c.in-Some-None.ensures.lookup.3 h less,
  none_left (λ (w : GranuleWord). h < w.granule) _ _ c.in-Some-None.ensures'.lookup.3,
)

pub returns-in-Some-None-clause-there : goal.returns-in-Some-None-clause-there
returns-in-Some-None-clause-there c past =
    let g : ℕ = c.in-Some-None.placed.now.granule in
    let place : g < g = of_first (λ (p : Placed). g < p.granule) _ _ _ past.0 c.in-Some-None.ensures.lookup.3 in
    omega (arith, place)

pub returns-in-None-Some-clause-least : goal.returns-in-None-Some-clause-least
returns-in-None-Some-clause-least c h less = (
  none_left (λ (p : Placed). h < p.granule) _ _ c.in-None-Some.ensures.lookup.3,
  below_first (λ (w : GranuleWord). w.granule) _ _ _ (words_up _ c.requires.final_words) c.in-None-Some.ensures'.lookup.3 h less,
)

pub returns-in-None-Some-clause-there : goal.returns-in-None-Some-clause-there
returns-in-None-Some-clause-there c past =
    let g : ℕ = c.in-None-Some.last.now.granule in
    let word : g < g = of_first (λ (w : GranuleWord). g < w.granule) _ _ _ past.1 c.in-None-Some.ensures'.lookup.3 in
    omega (arith, word)
