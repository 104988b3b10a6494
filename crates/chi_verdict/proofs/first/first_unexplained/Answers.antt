-- where the whole is explained each cut is; where it is not, it is not by the latest end
use Rattle.std.proofs.Common.{◌≡◌, ℕ, ◌≤◌, List, None, Option, sym, ap, ap₂, subst, ◌∙◌}
use Rattle.std.proofs.lemmas.Result.{IfOk-weaker}
use Rattle.chi_trace.specs.Explains.{Explains, IsTrace}
use Rattle.chi_trace.specs.Granules.{ExplainsGranule}
use Rattle.chi_verdict.specs.declared.verdict.Verdict.{Verdict}
use Rattle.chi_verdict.specs.Blames.{LookedForFirst}
use Rattle.chi_verdict.specs.Verdicts.{IfExplained, IfUndecided, IfUnexplained}
use Rattle.chi_trace.specs.Traces.{TraceValue}
use Rattle.chi_trace.specs.Words.{find_word, memory_of, word_or_zero}
use Rattle.chi_verdict.proofs.Blamed.{none_is_told}
use Rattle.chi_verdict.proofs.Spent.{first_after}
use Rattle.chi_verdict.proofs.Whole.{cut_all}
use Rattle.chi_verdict.proofs.first.first_unexplained.Goals as goal

pub returns-in-Explained-clause-never : goal.returns-in-Explained-clause-never
returns-in-Explained-clause-never g c time =
    let trace = c.args.trace.now in
    let items = c.in-Explained.field-0.items in
    let whole = subst (λ (v : Verdict). IfExplained v (Explains (memory_of c.opening-opening.result.now) (find_word c.none-none.result) c.operations-ops.result.now)) c.in-Explained.is
    c.in_ok-explain_operations.ensures.explained in
    let here = subst (λ words. Explains (memory_of words) (find_word c.none-none.result) c.operations-ops.result.now items) c.opening-opening.ensures.words whole in
    c.cuts_are_explained.ensures (memory_of trace.opening) (find_word c.none-none.result) trace.operations items time c.operations-ops.ensures.traced
    (subst (λ ops. Explains (memory_of trace.opening) (find_word c.none-none.result) ops items) c.operations-ops.ensures.operations here)

pub first_before-requires-clause-unexplained : goal.first_before-requires-clause-unexplained
first_before-requires-clause-unexplained g c explained =
    let n = c.in-Unexplained.granule in
    let ops = c.operations-ops.result.now in
    let word = word_or_zero c.opening-opening.result.now n in
    let none = subst (λ (v : Verdict). IfUnexplained v (λ m. (x : List ℕ) → ExplainsGranule ops m (word_or_zero c.opening-opening.result.now m) (find_word c.none-none.result m) x → ⊥))
    c.in-Unexplained.is c.in_ok-explain_operations.ensures.granule in
    none explained.0
    (subst (λ (f : Option ℕ). ExplainsGranule ops n word f explained.0) (sym (ap (λ words. find_word words n) c.none-none.ensures ∙ none_is_told n))
    (subst (λ trace. ExplainsGranule trace n word None explained.0) (cut_all c.latest_end-time.result ops (subst IsTrace (sym c.operations-ops.ensures.operations) c.operations-ops.ensures.traced) c.latest_end-time.ensures) explained.1))

pub returns-in-Explained-clause-spent : goal.returns-in-Explained-clause-spent
returns-in-Explained-clause-spent g c =
    let spent = c.in_ok-explain_operations.ensures.spent in
    record { count = spent.count; more = spent.more; undecided = tt; all = tt }

pub returns-in-Unexplained-clause-spent : goal.returns-in-Unexplained-clause-spent
returns-in-Unexplained-clause-spent g c =
    let spent = c.in_ok-explain_operations.ensures.spent in
    let looked = g.P.Progress.looked in
    let old = c.args.progress.now in
    let middle = c.explain_operations.new.progress in
    let new = c.first_before.new.progress in
    let t : TraceValue = record { opening = c.opening-opening.result.now; operations = c.operations-ops.result.now } in
    let same : t ≡ c.args.trace.now = ap₂ (λ words ops. record { opening = words; operations = ops }) c.opening-opening.ensures.words c.operations-ops.ensures.operations in
    IfOk-weaker c.first_before.result (LookedForFirst looked middle new c.args.budget t) (LookedForFirst looked old new c.args.budget c.args.trace.now)
    (λ first is. subst (λ (v : TraceValue). LookedForFirst looked old new c.args.budget v first) same (first_after looked old middle new c.args.budget t first (spent.count, spent.more) is))
    c.first_before.ensures.spent

pub returns-clause-spent : goal.returns-clause-spent
returns-clause-spent g c =
    let spent = c.in_ok-explain_operations.ensures.spent in
    record {
      count = spent.count;
      more = spent.more;
      undecided = subst (λ (v : Verdict). IfUndecided v (λ states. states ≤ spent.count)) c.in-Undecided.is spent.undecided;
      all = tt;
    }
