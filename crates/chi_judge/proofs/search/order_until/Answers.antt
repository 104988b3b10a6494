-- what leads to a word once the later writes are told too has led to one by the time, when none of them had started
use Rattle.std.proofs.Common.{ℕ, ◌≤◌, IfOk, List, ◌++◌, append-nil, subst, ap, ◌∙◌}
use Rattle.std.proofs.lemmas.List.Elements.{All-append}
use Rattle.std.proofs.lemmas.Result.{IfOk-weaker}
use Rattle.chi_trace.specs.declared.operation.Operation.{Operation}
use Rattle.chi_trace.specs.Cuts.{cut}
use Rattle.chi_trace.specs.Segments.{AreLasting}
use Rattle.chi_search.specs.declared.order.Found.{Found}
use Rattle.chi_search.specs.Found.{IfOrder}
use Rattle.chi_search.specs.Frontiers.{GoesAlong}
use Rattle.chi_search.specs.Layers.{SomeLeads}
use Rattle.chi_judge.proofs.CutLeads.{leads_by}
use Rattle.chi_judge.proofs.Cutting.{cut-append, cut_later}
use Rattle.chi_judge.proofs.More.{order_implies}
use Rattle.chi_judge.proofs.search.order_until.Goals as goal

pub returns-clause-explained : goal.returns-clause-explained
returns-clause-explained g c =
    let from = c.args.from.now in
    let time = c.args.time in
    let makers = c.in_ok-makers.makers.items in
    let Led : List Operation → Type 0 = λ more. (words : List ℕ) (told : List Operation) → GoesAlong words told from → (v : ℕ) × SomeLeads (told ++ more) words v in
    let Explained : Type 0 = (words : List ℕ) (told : List Operation) → AreLasting told → GoesAlong words told from → (v : ℕ) × SomeLeads (cut time told) words v in
    IfOk-weaker c.order_after.result (λ (found : Found). IfOrder found (λ order. Led makers)) (λ (found : Found). IfOrder found (λ order. Explained))
    (λ found. order_implies found (Led makers) Explained (λ led words told lasting along.
    let some = led words told along in
    let by = leads_by (told ++ makers) words time some.0 (All-append (λ (op : Operation). op.start ≤ op.end) told makers lasting c.in_ok-makers.ensures.lasting) some.1 in (
      by.0,
      subst (λ (l : List Operation). SomeLeads l words by.0)
          (cut-append time told makers ∙ (ap (λ (l : List Operation). cut time told ++ l) (cut_later time makers c.in_ok-makers.ensures.later) ∙ append-nil (cut time told))) by.1,
    )))
    (subst (λ (l : List Operation). IfOk c.order_after.result (λ found. IfOrder found (λ order. Led l))) c.deref.ensures.value c.order_after.ensures.along)
