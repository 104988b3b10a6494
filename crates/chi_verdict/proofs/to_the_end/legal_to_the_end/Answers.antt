-- one reply more explains nothing to the end, and then none does
use Rattle.std.proofs.Common.{◌≡◌, All, Bool, true, false, not, Option, None, Some, arith, sym, subst, ◌∙◌}
use Rattle.std.specs.Bool.{beq}
use Rattle.std.specs.Option.{option_eq}
use Rattle.std.proofs.lemmas.List.{take_all}
use Rattle.std.proofs.lemmas.List.Elements.{All-contains, All-more}
use Rattle.chi_lanes.specs.declared.reply.Reply.{Reply}
use Rattle.chi_search.proofs.Looking.{more_after}
use Rattle.chi_verdict.specs.ToTheEnd.{ExplainsToTheEnd, IsSaid}
use Rattle.chi_verdict.proofs.to_the_end.legal_to_the_end.Goals as goal

-- what is said, where it is that there is none
said_none : (A : Type 0) (said : Option Bool) → not (option_eq beq said (Some false)) ≡ false → IsSaid said A → A → ⊥
said_none A None other is = cc
said_none A (Some true) other is = cc
said_none A (Some false) other is = is

pub loop-reply-preserved : goal.loop-reply-preserved
loop-reply-preserved g c =
    let spends = c.in_ok-said.ensures.spends in
    let within = c.loop-reply.invariant.within in
    record {
      none = All-more (λ (reply : Reply). ExplainsToTheEnd c.args.trace.now c.args.final_words.now c.args.blame.now.granule c.args.blame.now.stop.op.number reply → ⊥) c.as_slice-legal.result.now c.loop-reply.reply-index _
          c.loop-reply-test.true c.loop-reply.invariant.none (said_none _ c.in_ok-said.said (sym c.ne.ensures ∙ c.if-ne.false) c.in_ok-said.ensures.right);
      within = omega (arith, within, spends.0);
      spent = more_after g.P.Progress.looked c.args.progress.now c.loop-reply.progress c.explains.new.progress _ _ _ (omega (arith, within, spends.0)) c.loop-reply.invariant.spent spends.1;
    }

pub returns-clause-right : goal.returns-clause-right
returns-clause-right g c some =
    let Never : Reply → Type 0 = λ (reply : Reply). ExplainsToTheEnd c.args.trace.now c.args.final_words.now c.args.blame.now.granule c.args.blame.now.stop.op.number reply → ⊥ in
    let all : All Never c.args.blame.now.stop.legal.items = subst (All Never) (take_all c.loop-reply.reply-index c.as_slice-legal.result.now (omega arith) ∙ c.as_slice-legal.ensures.value) c.loop-reply.invariant.none in
    All-contains Never c.args.blame.now.stop.legal.items some.0 all some.1 some.2
