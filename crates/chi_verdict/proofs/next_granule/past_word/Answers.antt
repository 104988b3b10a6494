-- what stands after a word
use Rattle.std.proofs.Common.{◌+◌, ◌<◌, ◌≤◌, All, drop, subst, arith}
use Rattle.chi_trace.specs.declared.words.GranuleWord.{GranuleWord}
use Rattle.chi_verdict.proofs.Ahead.{below_first, of_first, words_after, words_up}
use Rattle.chi_verdict.proofs.next_granule.past_word.Goals as goal

pub returns-then-last-granule-clause-later : goal.returns-then-last-granule-clause-later
returns-then-last-granule-clause-later c =
    subst (λ g. All (λ later. g < later.granule) (drop (c.args.told + 1) c.args.final_words.now)) c.if-last-granule.true
    (words_after c.args.final_words.now c.args.told c.in-Some.last.now c.requires.final_words c.in-Some.ensures.lookup.3)

pub returns-else-last-granule-clause-later : goal.returns-else-last-granule-clause-later
returns-else-last-granule-clause-later c =
    let there = c.in-Some.ensures.lookup.3 in
    let least : c.args.granule ≤ c.in-Some.last.now.granule = of_first (λ (w : GranuleWord). c.args.granule ≤ w.granule) _ _ _ c.requires.least there in
    below_first (λ (w : GranuleWord). w.granule) c.args.final_words.now c.args.told c.in-Some.last.now (words_up c.args.final_words.now c.requires.final_words) there c.args.granule
    (grind (arith, least, c.if-last-granule.false))
