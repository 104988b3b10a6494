-- one more, where the next reply is one
use Rattle.std.proofs.Common.{◌∷◌, [], Some, All, sym, subst}
use Rattle.std.proofs.lemmas.List.Elements.{All-append, All-cons, All-nil}
use Rattle.chi_lanes.specs.declared.reply.Reply.{Reply}
use Rattle.chi_search.proofs.Looking.{some_after}
use Rattle.chi_judge.specs.Legal.{LeadsWith}
use Rattle.chi_judge.proofs.legal.legal_replies.Goals as goal
use Rattle.chi_judge.proofs.legal.legal_replies.Goals.{then-branch+in_ok-push, else-branch}

pub loop-reply-preserved : goal.loop-reply-preserved
loop-reply-preserved g c =
    let P : Reply → Type 0 = λ reply. LeadsWith c.args.before.now c.args.ops.now c.args.time c.args.place (Some reply) in
    let before = c.loop-reply.legal.items in
    record {
      legal = elim c.if-branch.branch [
        | then-branch+in_ok-push v ↦
            subst (λ (u : _). All P u.items) (sym v.legal-is)
            (subst (All P) (sym v.in_ok-push.ensures.items)
            (All-append P before (_ ∷ []) c.loop-reply.invariant.legal (All-cons P _ [] (c.in_ok-is_legal.ensures.legal v.if-branch.true) (All-nil P))))
        | else-branch v ↦ subst (λ (u : _). All P u.items) (sym v.legal-is) c.loop-reply.invariant.legal
      ];
      looked = some_after g.P.Progress.looked c.answers_of.new.progress c.loop-reply.progress c.is_legal.new.progress c.loop-reply.invariant.looked c.in_ok-is_legal.ensures.looked;
    }

pub returns-clause-looked : goal.returns-clause-looked
returns-clause-looked g c =
    some_after g.P.Progress.looked c.args.progress.now c.answers_of.new.progress c.loop-reply.progress c.in_ok-answers_of.ensures c.loop-reply.invariant.looked
