-- one text more
use Rattle.std.proofs.Common.{◌≡◌, ◌++◌, ℕ, length, sym, ap, ◌∙◌, append-nil, arith}
use Rattle.chi_page.specs.Listed.{comma_line, listed}
use Rattle.chi_page.specs.Granules.{granules_json}
use Rattle.std.specs.Prelude.{slice_get}
use Rattle.chi_page.specs.Granules.{drawn_at}
use Rattle.chi_page.proofs.Joined.{listed_more}
use Rattle.chi_page.proofs.granule.add_granules.Goals as goal

pub loop-number-init : goal.loop-number-init
unfolding listed
loop-number-init c = sym (append-nil c.args.to.now.items)

pub loop-number-preserved : goal.loop-number-preserved
loop-number-preserved c =
    listed_more comma_line (λ n. drawn_at c.args.recorded.now (slice_get c.args.granules.now n)) c.args.to.now.items c.loop-number.number c.loop-number.to.items _ _
    c.loop-number.invariant c.in_ok-add_between.ensures c.in_ok-add_drawn_at.ensures

pub returns : goal.returns
unfolding granules_json
returns c =
    let all : c.loop-number.number ≡ length c.args.granules.now = omega arith in
    c.loop-number.invariant ∙ ap (λ (n : ℕ). c.args.to.now.items ++ listed comma_line (λ n. drawn_at c.args.recorded.now (slice_get c.args.granules.now n)) n) all
