-- the words are those that the granule of the trace that was read can hold, and states are counted by one search after another
use Rattle.std.proofs.Common.{ℕ, List, ◌↔◌, subst}
use Rattle.std.specs.List.{Contains}
use Rattle.chi_search.specs.Found.{IfWords}
use Rattle.chi_trace.specs.Traces.{CanHold, IsLegal}
use Rattle.std.proofs.lemmas.Result.{IfOk-weaker}
use Rattle.chi_search.specs.Looks.{LookedSome}
use Rattle.chi_search.proofs.Looking.{at_least_after, some_after}
use Rattle.chi_answer.specs.declared.answer.Answer.{Answer}
use Rattle.chi_answer.proofs.Spent.{said_weaker}
use Rattle.chi_answer.proofs.answer.unexplained.Goals as goal

pub returns-in-At-clause-looked : goal.returns-in-At-clause-looked
returns-in-At-clause-looked g c =
    let looked = g.P.Progress.looked in
    let spent = c.in_ok-blame.ensures.spent in
    IfOk-weaker c.blamed.result (λ (answer : Answer). LookedSome looked c.first_unexplained.new.progress c.blamed.new.progress) (λ (answer : Answer). LookedSome looked c.args.progress.now c.blamed.new.progress)
    (λ answer then. some_after looked c.args.progress.now c.first_unexplained.new.progress c.blamed.new.progress (spent.count, spent.more) then) c.blamed.ensures.looked

pub returns-in-At-clause-said : goal.returns-in-At-clause-said
returns-in-At-clause-said g c =
    let spent = c.in_ok-blame.ensures.spent in
    said_weaker (λ whole. at_least_after g.P.Progress.looked c.args.progress.now c.first_unexplained.new.progress c.blamed.new.progress c.args.budget (spent.count, spent.more) whole) c.args.recorded.now c.blamed.result c.blamed.ensures.said

pub returns : goal.returns
returns g c = record {
  right = (
    c.requires.trace,
    c.requires.granule,
    subst (λ t. IfWords c.in_ok-words.words (λ each. (order : List ℕ) → IsLegal t order → (v : ℕ) → Contains each v ↔ CanHold t c.args.granule v)) c.trace-trace.ensures
        c.in_ok-words.ensures.words,
  );
  decided = tt;
  said = tt;
  looked =
      let spent = c.in_ok-blame.ensures.spent in
      some_after g.P.Progress.looked c.args.progress.now c.first_unexplained.new.progress c.words_held.new.progress (spent.count, spent.more) (_, c.in_ok-words.ensures.spends.1);
}
