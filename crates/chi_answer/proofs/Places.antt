-- the places that an answer names are places of the trace
use Rattle.std.proofs.Common.{ℕ, List}
use Rattle.chi_trace.proofs.Orders.{ArePlaces, places_of}
use Rattle.chi_trace.specs.declared.words.GranuleWord.{GranuleWord}
use Rattle.chi_trace.specs.Traces.{IsExplained, TraceValue}

-- those of an order that explains it
pub order_places : (t : TraceValue) (final_words : List GranuleWord) (order : List ℕ) → IsExplained t final_words order → ArePlaces t.operations order
order_places t final_words order is = places_of t.operations order is.once
