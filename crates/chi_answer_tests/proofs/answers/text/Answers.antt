-- the answer is right with 16 operations shown
use Rattle.chi_answer_tests.proofs.answers.text.Goals as goal

pub answer_text-requires : goal.answer_text-requires
answer_text-requires c = (16, c.in_ok-answer.ensures.right)
