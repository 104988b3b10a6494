-- one text more
use Rattle.std.proofs.Common.{◌≡◌, ◌++◌, ℕ, length, sym, ap, ◌∙◌, append-nil, arith}
use Rattle.chi_page.specs.Listed.{comma, listed}
use Rattle.chi_page.specs.Granules.{addresses_json}
use Rattle.std.specs.Prelude.{slice_index}
use Rattle.chi_page.specs.Granules.{granule_json}
use Rattle.chi_page.proofs.Joined.{listed_more}
use Rattle.chi_page.proofs.lists.add_addresses.Goals as goal

pub loop-number-init : goal.loop-number-init
unfolding listed
loop-number-init c = sym (append-nil c.args.to.now.items)

pub loop-number-preserved : goal.loop-number-preserved
loop-number-preserved c =
    listed_more comma (λ n. granule_json (slice_index c.args.granules.now n)) c.args.to.now.items c.loop-number.number c.loop-number.to.items _ _
    c.loop-number.invariant c.in_ok-add_between.ensures c.in_ok-add_granule.ensures

pub returns : goal.returns
unfolding addresses_json
returns c =
    let all : c.loop-number.number ≡ length c.args.granules.now = omega arith in
    c.loop-number.invariant ∙ ap (λ (n : ℕ). c.args.to.now.items ++ listed comma (λ n. granule_json (slice_index c.args.granules.now n)) n) all
