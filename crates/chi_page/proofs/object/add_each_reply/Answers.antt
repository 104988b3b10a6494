-- one text more
use Rattle.std.proofs.Common.{◌≡◌, ◌++◌, ℕ, Option, length, sym, ap, ◌∙◌, append-nil, arith}
use Rattle.std.proofs.lemmas.Option.{slice_get-get_or}
use Rattle.std.specs.Prelude.{slice_get}
use Rattle.chi_lanes.specs.declared.reply.Reply.{Reply}
use Rattle.chi_lanes.specs.declared.reply.Reply.TheVariants.{Comp}
use Rattle.chi_page.specs.Listed.{comma, listed}
use Rattle.chi_page.specs.Objects.{each_reply_json}
use Rattle.chi_page.specs.Operations.{reply_json}
use Rattle.chi_page.proofs.Joined.{listed_more}
use Rattle.chi_page.proofs.object.add_each_reply.Goals as goal

pub loop-number-init : goal.loop-number-init
unfolding listed
loop-number-init c = sym (append-nil c.args.to.now.items)

pub loop-number-preserved : goal.loop-number-preserved
loop-number-preserved c =
    listed_more comma (λ n. reply_json (slice_get c.args.replies.now n)) c.args.to.now.items c.loop-number.number c.loop-number.to.items _ _
    c.loop-number.invariant c.in_ok-add_between.ensures
    (c.in_ok-add_reply.ensures ∙ ap (λ (o : Option Reply). c.add_between.new.to.items ++ reply_json o)
    (sym (slice_get-get_or c.args.replies.now c.loop-number.number Comp (omega arith))))

pub returns : goal.returns
unfolding each_reply_json
returns c =
    let all : c.loop-number.number ≡ length c.args.replies.now = omega arith in
    c.loop-number.invariant ∙ ap (λ (n : ℕ). c.args.to.now.items ++ listed comma (λ n. reply_json (slice_get c.args.replies.now n)) n) all
