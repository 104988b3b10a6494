-- an order that explains the trace has places of it
use Rattle.std.proofs.Common.{get_or, length, ltb-true, subst}
use Rattle.chi_answer.specs.declared.answer.Answer.{Answer}
use Rattle.chi_answer.specs.Answers.{IsAnswer}
use Rattle.chi_answer.proofs.Places.{order_places}
use Rattle.chi_page.proofs.answer.answer_json.Goals as goal

pub add_explained-requires : goal.add_explained-requires
add_explained-requires c =
    let r = c.args.recorded.now in
    let order = c.in-Explained.order.items in
    let places = order_places r.trace r.final_words order (subst (λ (a : Answer). IsAnswer r c.args.around a) c.in-Explained.is c.requires) in
    rw c.deref.ensures.value (λ k d below. ltb-true (get_or order k d) (length r.trace.operations) (places k d below))
