-- one text more
use Rattle.std.proofs.Common.{◌≡◌, ◌++◌, ℕ, length, sym, ap, ◌∙◌, append-nil, arith}
use Rattle.chi_page.specs.Listed.{comma, listed}
use Rattle.chi_page.specs.Granules.{each_word_json}
use Rattle.std.specs.Prelude.{slice_index}
use Rattle.chi_page.specs.Granules.{word_json}
use Rattle.chi_page.proofs.Joined.{listed_more}
use Rattle.chi_page.proofs.lists.add_each_word.Goals as goal

pub loop-number-init : goal.loop-number-init
unfolding listed
loop-number-init c = sym (append-nil c.args.to.now.items)

pub loop-number-preserved : goal.loop-number-preserved
loop-number-preserved c =
    listed_more comma (λ n. word_json (slice_index c.args.words.now n)) c.args.to.now.items c.loop-number.number c.loop-number.to.items _ _
    c.loop-number.invariant c.in_ok-add_between.ensures c.in_ok-add_word.ensures

pub returns : goal.returns
unfolding each_word_json
returns c =
    let all : c.loop-number.number ≡ length c.args.words.now = omega arith in
    c.loop-number.invariant ∙ ap (λ (n : ℕ). c.args.to.now.items ++ listed comma (λ n. word_json (slice_index c.args.words.now n)) n) all
