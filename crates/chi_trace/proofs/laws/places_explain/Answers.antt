-- What finishes the operations told in another order is what finishes them in the trace.
use Rattle.chi_trace.proofs.AtPlaces.{told_back, told_there}
use Rattle.chi_trace.proofs.laws.places_explain.Goals as goal

pub returns : goal.returns
returns c trace left places w final_word each =
    (λ order h. told_there trace left places w final_word each order h, λ order h. told_back trace left places w final_word each order h)
