-- Behind what explains a trace stands a legal history of the home.
use Rattle.chi_history.specs.History.{opening_memory}
use Rattle.chi_trace.proofs.Legal.{are_entries, history, is_legal, leaves_same}
use Rattle.chi_trace.proofs.Orders.{places_of}
use Rattle.chi_trace.proofs.laws.explanations_are_legal.Goals as goal

pub returns : goal.returns
returns c o final_words trace order is could e =
    let m = opening_memory o in (
      history trace m order,
      is_legal o trace m order is could (places_of trace order e.once),
      are_entries trace m order e.answers,
      leaves_same trace m order,
    )
