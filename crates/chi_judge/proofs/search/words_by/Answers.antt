-- the words after what was known by a time
use Rattle.std.proofs.Common.{◌≡◌, ℕ, ◌↔◌, List, ◌++◌, All, IfOk, subst, ◌∙◌}
use Rattle.std.specs.List.{Contains}
use Rattle.std.proofs.lemmas.Result.{IfOk-weaker}
use Rattle.chi_trace.specs.declared.operation.Operation.{Operation}
use Rattle.chi_trace.specs.Cuts.{cut}
use Rattle.chi_search.specs.declared.words.Words.{Words}
use Rattle.chi_search.specs.Found.{IfUnknown, IfWords}
use Rattle.chi_search.specs.Frontiers.{Follows, MayBeTold}
use Rattle.chi_search.specs.Layers.{SomeLeads}
use Rattle.chi_judge.specs.Judges.{LiesWithin}
use Rattle.chi_judge.proofs.Cutting.{cut_told, cut_within}
use Rattle.chi_judge.proofs.More.{unknown_implies}
use Rattle.chi_judge.proofs.search.words_by.Goals as goal

pub returns-clause-words : goal.returns-clause-words
returns-clause-words g c =
    let before = c.args.before.now in
    let known = c.deref.ensures.value ∙ c.in_ok-known.ensures in
    subst (λ (ops : List Operation). IfOk c.words_after.result (λ (found : Words). IfWords found (λ each. (words : List ℕ) (told : List Operation) → Follows words told before → (v : ℕ) → Contains each v ↔ SomeLeads (told ++ ops) words v)))
    known c.words_after.ensures.words

pub returns-clause-unknown : goal.returns-clause-unknown
returns-clause-unknown g c =
    let spent = c.words_after.new.budget ≡ 0 in
    let before = c.args.before.now in
    let more = c.args.more.now in
    let known = c.deref.ensures.value ∙ c.in_ok-known.ensures in
    let said = subst (λ (ops : List Operation). IfOk c.words_after.result (λ (found : Words). IfUnknown found (MayBeTold before ops → All LiesWithin ops → spent))) known c.words_after.ensures.unknown in
    IfOk-weaker c.words_after.result (λ (found : Words). IfUnknown found (MayBeTold before (cut c.args.time more) → All LiesWithin (cut c.args.time more) → spent))
    (λ (found : Words). IfUnknown found (MayBeTold before more → All LiesWithin more → spent))
    (λ found. unknown_implies found (MayBeTold before (cut c.args.time more) → All LiesWithin (cut c.args.time more) → spent) (MayBeTold before more → All LiesWithin more → spent)
    (λ is may within. is (cut_told before c.args.time more may) (cut_within c.args.time more within)))
    said
