-- the first state of one word more
use Rattle.std.proofs.Common.{◌≡◌, ◌<◌, ◌≤◌, ◌∙◌, length, slice_index, sym, arith}
use Rattle.std.proofs.lemmas.Option.{slice_get-get_or}
use Rattle.chi_search.specs.Positions.{position_of, start}
use Rattle.chi_search.specs.StateSets.{Has}
use Rattle.chi_search.proofs.Elements.{in_place, some_end, some_step}
use Rattle.chi_search.proofs.layer.first_layer.Goals as goal

pub loop-word-preserved : goal.loop-word-preserved
loop-word-preserved c p =
    let words = c.args.words.now in
    let i = c.loop-word.word-index in
    let word = slice_index words i in
    let below : i < length words = omega arith in
    some_step (λ w. p ≡ start w) (Has c.loop-word.layer p) (Has c.add_new.new.states p) words i word (slice_get-get_or words i 0 below) (c.loop-word.invariant p)
    (in_place (Has c.add_new.new.states p) (Has c.loop-word.layer p) (p ≡ position_of c.first_state.result) (p ≡ start word) (c.in_ok-add_new.ensures.has p)
    (λ same. same ∙ c.first_state.ensures) (λ same. same ∙ sym c.first_state.ensures))

pub returns : goal.returns
returns c p =
    let whole : length c.args.words.now ≤ c.loop-word.word-index = omega arith in
    some_end (λ w. p ≡ start w) (Has c.loop-word.layer p) c.args.words.now c.loop-word.word-index whole (c.loop-word.invariant p)
