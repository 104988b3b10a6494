-- the text is the one of the answer
use Rattle.std.proofs.Common.{subst}
use Rattle.chi_answer.specs.declared.answer.Answer.{Answer}
use Rattle.chi_answer.specs.Answers.{IsAnswer}
use Rattle.chi_answer.proofs.Places.{order_places}
use Rattle.chi_answer.proofs.text.answer_text.Goals as goal

pub add_witness-requires : goal.add_witness-requires
add_witness-requires c =
    rw c.deref.ensures.value (order_places c.args.recorded.now.trace c.args.recorded.now.final_words c.in-Explained.order.items
    (subst (λ (a : Answer). IsAnswer c.args.recorded.now c.requires.0 a) c.in-Explained.is c.requires.1))
