-- the judge was told the granule's operations of the trace
use Rattle.std.proofs.Common.{◌≡◌, ℕ, List, rules, subst}
use Rattle.chi_trace.specs.declared.operation.Operation.{Operation}
use Rattle.chi_trace.specs.Words.{word_or_zero}
use Rattle.chi_judge.specs.Reaches.{IsJudgeOf}
use Rattle.chi_verdict.proofs.doubt.doubt_of.Goals as goal

pub returns-clause-far : goal.returns-clause-far
returns-clause-far g c =
    let t = c.args.trace.now in
    let granule = c.args.granule in
    let ops : c.operations-ops.result.now ≡ t.operations = search rules in
    let word : c.word-word.result ≡ word_or_zero t.opening granule = search rules in
    c.in_ok-explained_to.ensures.far t.operations granule (word_or_zero t.opening granule)
    (subst (λ (w : ℕ). IsJudgeOf t.operations granule w c.in_ok-judge.judge) word
    (subst (λ (l : List Operation). IsJudgeOf l granule c.word-word.result c.in_ok-judge.judge) ops c.in_ok-judge.ensures.judge))
