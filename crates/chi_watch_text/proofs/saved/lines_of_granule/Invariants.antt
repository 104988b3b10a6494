-- with the lines that are left, what is saved makes all that tell of the granule
use Rattle.std.proofs.Common.{List, ℕ}
use Rattle.std.specs.BTreeSet.{contains}
use Rattle.std.specs.Ordering.{nat_cmp}
use Rattle.chi_events.specs.declared.event.Event.{Event}
use Rattle.chi_watch_text.specs.Saved.{AreWhole, lines_about, no_number}
use Rattle.chi_watch_text.proofs.SavedLines.{IsLeft}
use Rattle.chi_watch_text.proofs.saved.lines_of_granule.Given as goal

abbrev pub invariant-loop-number : goal.invariant-loop-number
invariant-loop-number l = record {
  left : (lines : List (List ℕ)) (events : List Event) → AreWhole l.text lines events
      → IsLeft l.granule (contains nat_cmp l.numbers) l.number l.from l.saved.items (lines_about l.granule no_number lines events);
}
