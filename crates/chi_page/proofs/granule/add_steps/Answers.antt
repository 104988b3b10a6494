-- one operation more
use Rattle.std.proofs.Common.{◌≡◌, ◌++◌, ℕ, List, length, get_or, refl, sym, ap, ◌∙◌, append-nil, arith}
use Rattle.chi_trace.specs.Explains.{at}
use Rattle.chi_trace.specs.Granules.{last_word, next}
use Rattle.chi_page.specs.Granules.{step_at}
use Rattle.chi_page.specs.Listed.{comma_line, listed}
use Rattle.chi_page.specs.Granules.{steps_json}
use Rattle.chi_page.proofs.Joined.{listed_more}
use Rattle.chi_page.proofs.Words.{last_word_more, step_same}
use Rattle.chi_page.proofs.granule.add_steps.Goals as goal

pub loop-number-init : goal.loop-number-init
unfolding listed last_word
loop-number-init c = record { text = sym (append-nil c.args.to.now.items); word = refl }

pub word_after-after-requires-clause-place : goal.word_after-after-requires-clause-place
word_after-after-requires-clause-place c = c.requires.places c.loop-number.number 0 c.loop-number-test.true

pub loop-number-preserved : goal.loop-number-preserved
loop-number-preserved c =
    let ops = c.args.ops.now in
    let order = c.args.order.now in
    let number = c.loop-number.number in
    let word = c.word_after-after.ensures ∙ ap (λ (w : ℕ). next (at ops (get_or order number 0)) w) c.loop-number.invariant.word in
    let more = word ∙ sym (last_word_more ops c.args.word order number c.loop-number-test.true) in
    record {
      text = listed_more comma_line (step_at ops c.args.word order) c.args.to.now.items number c.loop-number.to.items _ _ c.loop-number.invariant.text c.in_ok-add_between.ensures
          (c.in_ok-add_step.ensures ∙ ap (λ (l : List ℕ). c.add_between.new.to.items ++ l) (step_same (get_or order number 0) _ _ _ _ c.loop-number.invariant.word more));
      word = more;
    }

pub returns : goal.returns
unfolding steps_json
returns c =
    let all : c.loop-number.number ≡ length c.args.order.now = omega arith in
    c.loop-number.invariant.text ∙ ap (λ (n : ℕ). c.args.to.now.items ++ listed comma_line (step_at c.args.ops.now c.args.word c.args.order.now) n) all
