-- one text more
use Rattle.std.proofs.Common.{◌≡◌, ◌++◌, ℕ, length, sym, ap, ◌∙◌, append-nil, arith}
use Rattle.std.specs.Prelude.{slice_get}
use Rattle.chi_page.specs.Listed.{comma, listed}
use Rattle.chi_page.proofs.Joined.{listed_more}
use Rattle.chi_watch_text.specs.Summaries.{waiting_at, waiting_list}
use Rattle.chi_watch_text.proofs.summary_json.add_all_waiting.Goals as goal

pub loop-number-init : goal.loop-number-init
unfolding listed
loop-number-init c = sym (append-nil c.args.to.now.items)

pub loop-number-preserved : goal.loop-number-preserved
loop-number-preserved c =
    listed_more comma (λ n. waiting_at (slice_get c.args.waiting.now n)) c.args.to.now.items c.loop-number.number c.loop-number.to.items _ _
    c.loop-number.invariant c.in_ok-add_between.ensures c.in_ok-add_waiting_at.ensures

pub returns : goal.returns
unfolding waiting_list
returns c =
    let all : c.loop-number.number ≡ length c.args.waiting.now = omega arith in
    c.loop-number.invariant ∙ ap (λ (n : ℕ). c.args.to.now.items ++ listed comma (λ n. waiting_at (slice_get c.args.waiting.now n)) n) all
