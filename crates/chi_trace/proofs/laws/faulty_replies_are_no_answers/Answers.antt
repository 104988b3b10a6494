-- an answer has no fault
use Rattle.std.proofs.Common.{Some, ap}
use Rattle.chi_trace.specs.Replies.{reply_fault}
use Rattle.chi_trace.proofs.AnswersLie.{answer_is_faultless}
use Rattle.chi_trace.proofs.laws.faulty_replies_are_no_answers.Goals as goal

pub returns : goal.returns
returns c o reply fault faulty m is =
    let none = answer_is_faultless o m in
    let same = ap (λ r. reply_fault o (Some r)) is in
    cc
