-- the words of the search that was told more
use Rattle.std.proofs.Common.{ℕ, ◌↔◌, List, ◌++◌, IfSome, Option, subst}
use Rattle.std.specs.List.{Contains}
use Rattle.std.proofs.lemmas.Result.{IfOk-weaker}
use Rattle.chi_trace.specs.declared.operation.Operation.{Operation}
use Rattle.chi_search.specs.declared.words.Words.{Words}
use Rattle.chi_search.specs.Found.{IfWords}
use Rattle.chi_search.specs.Frontiers.{Follows, FrontierValue}
use Rattle.chi_search.specs.Layers.{SomeLeads}
use Rattle.chi_judge.proofs.More.{words_imply}
use Rattle.chi_judge.proofs.search.words_after.Goals as goal

-- the words are those that are left after more was told
abbrev AreLeftAfter : FrontierValue → List Operation → List ℕ → Type 0
AreLeftAfter f more each = (words : List ℕ) (told : List Operation) → Follows words told f → (v : ℕ) → Contains each v ↔ SomeLeads (told ++ more) words v

pub returns-in-Some-clause-words : goal.returns-in-Some-clause-words
returns-in-Some-clause-words g c =
    let more = c.args.more.now in
    let before = c.args.before.now in
    let after = c.in-Some.after in
    let told_more = subst (λ (o : Option FrontierValue). IfSome o (λ f. (words : List ℕ) (told : List Operation) → Follows words told before → Follows words (told ++ more) f)) c.in-Some.is c.in_ok-after.ensures.follows in
    IfOk-weaker c.words.result
    (λ (found : Words). IfWords found (λ each. (words : List ℕ) (told : List Operation) → Follows words told after → (v : ℕ) → Contains each v ↔ SomeLeads told words v))
    (λ (found : Words). IfWords found (AreLeftAfter before more))
    (λ found. words_imply found
    (λ each. (words : List ℕ) (told : List Operation) → Follows words told after → (v : ℕ) → Contains each v ↔ SomeLeads told words v) (AreLeftAfter before more)
    (λ each is words told follows. is words (told ++ more) (told_more words told follows)))
    c.words.ensures.words
