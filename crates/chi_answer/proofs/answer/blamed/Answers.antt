-- what is said of the legal responses and of other granules is said of the trace that was read, and states are counted by both searches
use Rattle.std.proofs.Common.{List, inl, inr, subst, arith}
use Rattle.chi_trace.specs.Traces.{TraceValue}
use Rattle.chi_trace.specs.declared.words.GranuleWord.{GranuleWord}
use Rattle.chi_search.proofs.Looking.{some_after, spent_after}
use Rattle.chi_verdict.specs.ToTheEnd.{IsSaid, SomeExplains}
use Rattle.chi_answer.proofs.Spent.{said_by}
use Rattle.chi_answer.proofs.answer.blamed.Goals as goal

pub returns-clause-right : goal.returns-clause-right
returns-clause-right g c =
    let blame = c.args.blame in
    let said = c.in_ok-to_the_end.to_the_end in (
      c.requires.trace,
      c.requires.blame,
      subst (λ (t : TraceValue). IsSaid said (SomeExplains t c.args.recorded.now.final_words blame.granule blame.stop.op.number blame.stop.legal.items)) c.trace-trace.ensures
          (subst (λ (words : List GranuleWord). IsSaid said (SomeExplains c.trace-trace.result.now words blame.granule blame.stop.op.number blame.stop.legal.items)) c.final_words-words.ensures
          c.in_ok-to_the_end.ensures.right),
      c.in_ok-beside.ensures.beside,
    )

pub returns-clause-said : goal.returns-clause-said
returns-clause-said g c =
    let looked = g.P.Progress.looked in
    let first = c.in_ok-to_the_end.ensures.spends in
    let then = c.in_ok-beside.ensures.spends in
    let left = c.unexplained_beside.new.budget in
    let more = spent_after looked c.args.progress.now c.legal_to_the_end.new.progress c.unexplained_beside.new.progress c.args.budget c.legal_to_the_end.new.budget left first.0 then.0 first.1 then.1 in
    said_by looked c.args.progress.now c.unexplained_beside.new.progress c.args.budget left more c.args.recorded.now c.args.blame (record { to_the_end = c.in_ok-to_the_end.to_the_end; beside = c.in_ok-beside.beside })
    (λ none. elim (c.in_ok-to_the_end.ensures.unknown none) [
      | inl spent ↦ inl (omega (arith, spent, then.0))
      | inr nothing ↦ inr nothing
    ]) c.in_ok-beside.ensures.all

pub returns-clause-looked : goal.returns-clause-looked
returns-clause-looked g c =
    some_after g.P.Progress.looked c.args.progress.now c.legal_to_the_end.new.progress c.unexplained_beside.new.progress (_, c.in_ok-to_the_end.ensures.spends.1) (_, c.in_ok-beside.ensures.spends.1)
