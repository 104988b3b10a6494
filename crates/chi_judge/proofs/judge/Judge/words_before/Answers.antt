-- the words of the search are those that can be left up to the time before
use Rattle.std.proofs.Common.{◌≡◌, ℕ, ◌+◌, ◌-◌, ◌≤◌, ◌++◌, ◌↔◌, IfOk, List, ap, inr, subst, arith}
use Rattle.std.specs.Prelude.{Result, ◌<◌}
use Rattle.std.specs.List.{Contains}
use Rattle.std.proofs.lemmas.Result.{IfOk-weaker}
use Rattle.chi_search.specs.declared.words.Words.{Words}
use Rattle.chi_search.specs.Found.{IfWords}
use Rattle.chi_search.specs.Frontiers.{Follows}
use Rattle.chi_search.specs.Layers.{SomeLeads}
use Rattle.chi_search.specs.Looks.{LookedMore, LookedSome}
use Rattle.chi_trace.specs.Cuts.{cut}
use Rattle.chi_trace.specs.declared.operation.Operation.{Operation}
use Rattle.chi_judge.specs.Judges.{JudgeValue}
use Rattle.chi_judge.specs.Searches.{AreWordsBy}
use Rattle.chi_judge.proofs.More.{ok_unknown_implies, ok_words_imply, told_kept}
use Rattle.chi_judge.proofs.Reached.{words_by_time}
use Rattle.chi_judge.proofs.judge.Judge.words_before.Goals as goal

-- the words by a time are those up to the time before
words_imply_before : {E : Type 0} (r : Result Words E) (v : JudgeValue) (time : ℕ) → 0 < time → IfOk r (λ found. IfWords found (AreWordsBy v (time - 1)))
    → IfOk r (λ found. IfWords found (λ words. (earlier : ℕ) → earlier + 1 ≡ time → AreWordsBy v earlier words))
words_imply_before r v time some =
    ok_words_imply r (AreWordsBy v (time - 1)) (λ words. (earlier : ℕ) → earlier + 1 ≡ time → AreWordsBy v earlier words)
    (λ words is earlier next. subst (λ (t : ℕ). AreWordsBy v t words) (omega (arith, next)) is)

pub returns-clause-words : goal.returns-clause-words
returns-clause-words g c =
    words_imply_before c.words_by.result c.args.self.now c.args.time (omega (arith, c.if-time-eq0.false))
    (ok_words_imply c.words_by.result
    (λ each. (words : List ℕ) (told : List Operation) → Follows words told c.self.inside.before → (v : ℕ) → Contains each v ↔ SomeLeads (told ++ cut (c.args.time - 1) c.args.ops.now) words v)
    (AreWordsBy c.args.self.now (c.args.time - 1))
    (λ each found. words_by_time c.granules_stand_alone.ensures c.args.self.now c.self.inside.before c.args.ops.now (c.args.time - 1) each
    (ap (λ (v : JudgeValue). v.before) c.self.view_is) c.requires.kept found)
    c.words_by.ensures.words)

pub returns-clause-no_words : goal.returns-clause-no_words
returns-clause-no_words g c =
    IfOk-weaker c.words_by.result
    (λ (found : Words). (c.words_by.new.budget ≤ c.args.budget) × LookedMore g.P.Progress.looked c.args.progress.now c.words_by.new.progress (c.args.budget - c.words_by.new.budget))
    (λ (found : Words). c.args.time ≡ 0 → IfWords found (λ words. ⊥))
    (λ found spends zero. absurd (c.if-time-eq0.false zero))
    c.words_by.ensures.spends

pub returns-clause-unknown : goal.returns-clause-unknown
returns-clause-unknown g c =
    ok_unknown_implies c.words_by.result
    (λ spent spends trace n w is.
    let none = told_kept c.self.inside.before c.args.ops.now c.args.self.now (ap (λ (x : JudgeValue). x.before) c.self.view_is) c.requires.kept spent trace n w is in
    inr (c.args.budget - c.words_by.new.budget, omega (arith, none), spends.1))
    c.words_by.ensures.unknown c.words_by.ensures.spends

pub returns-clause-looked : goal.returns-clause-looked
returns-clause-looked g c =
    IfOk-weaker c.words_by.result
    (λ (found : Words). (c.words_by.new.budget ≤ c.args.budget) × LookedMore g.P.Progress.looked c.args.progress.now c.words_by.new.progress (c.args.budget - c.words_by.new.budget))
    (λ (found : Words). LookedSome g.P.Progress.looked c.args.progress.now c.words_by.new.progress)
    (λ found spends. (c.args.budget - c.words_by.new.budget, spends.1))
    c.words_by.ensures.spends
