-- the places in the orders of granules are places of the trace
use Rattle.std.proofs.Common.{ℕ, ◌<◌, List, inl, inr, All, length, get_or, sym, subst}
use Rattle.std.proofs.lemmas.List.Elements.{All-nil}
use Rattle.chi_trace.specs.Granules.{is_of}
use Rattle.chi_trace.proofs.Places.{passes}
use Rattle.chi_verdict.specs.declared.first.Blame.{Blame}
use Rattle.chi_reading.specs.TraceText.{RecordedValue}
use Rattle.chi_excerpt.proofs.Failures.{granule_places, order_places}
use Rattle.chi_page.specs.Granules.{AreOfTrace}
use Rattle.chi_page.specs.declared.drawn.Drawn.{Drawn}
use Rattle.chi_judge.specs.declared.standing.Standing.{Standing}
use Rattle.chi_judge.specs.declared.standing.Standing.TheVariants.{Explained, Unexplained, Undecided}
use Rattle.chi_granules.specs.Judged.{IsFound, IsJudged, IsShown}

found_places : (r : RecordedValue) (g : ℕ) (f : Standing) (order : List ℕ) → IsFound r g f order → All (λ i. i < length r.trace.operations) order
found_places r g Explained order is = granule_places r.trace g order (passes (is_of r.trace.operations g) order is.once)
found_places r g Unexplained order is = subst (All (λ i. i < length r.trace.operations)) (sym is.1) (All-nil (λ i. i < length r.trace.operations))
found_places r g Undecided order is = subst (All (λ i. i < length r.trace.operations)) (sym is) (All-nil (λ i. i < length r.trace.operations))

-- of granules that were judged
pub judged_places : (r : RecordedValue) (drawn : List Drawn) → All (IsJudged r) drawn → AreOfTrace r drawn
judged_places r drawn all = λ k d below. found_places r (get_or drawn k d).granule (get_or drawn k d).finding (get_or drawn k d).order.items (all k d below)

-- and of those that are shown where a trace stops being explained
pub shown_places : (r : RecordedValue) (blame : Blame) (drawn : List Drawn) → All (IsShown r blame) drawn → AreOfTrace r drawn
shown_places r blame drawn all = λ k d below. of_shown (get_or drawn k d) (all k d below)
  where
    of_shown : (d : Drawn) → IsShown r blame d → All (λ i. i < length r.trace.operations) d.order.items
    of_shown d (inl is) = subst (All (λ i. i < length r.trace.operations)) (sym is.order) (order_places r blame.granule blame.order.items)
    of_shown d (inr is) = found_places r d.granule d.finding d.order.items is
