-- laws of what waits: each request is told once, with all that was told of it, in the order of the points
use Rattle.std.specs.Prelude.{◌≡◌, ◌≢◌, ℕ, ◌^◌, ◌<◌, ◌&&◌, if◌then◌else◌, not, true, false, List, [], ◌∷◌, ◌++◌, Some}
use Rattle.chi_events.specs.declared.event.Event.{Event}
use Rattle.chi_events.specs.declared.event.EventKind.{EventKind}
use Rattle.chi_flits.specs.Told.{requested_at}
use Rattle.chi_flits.specs.declared.flit.RequestFlit.{RequestFlit}
use Rattle.chi_points.specs.declared.slot.Slot.{Slot}
use Rattle.chi_points.specs.declared.slot.Slot.TheVariants as slot
use Rattle.chi_points.specs.Known.{are_dropped, owner, place_of}
use Rattle.chi_points.specs.Points.{PointsValue, has_point, kinds_of, left, ready, with_event, with_point, with_told}

-- What is told now are the first slots, and the others wait in their order. Of a request that is told nothing is left, and of the
-- others all.
pub record TellsOnce (w : PointsValue) : Type 0 where
  pub in_order : w.slots ≡ ready w ++ (left w).slots
  pub of_told : (place : ℕ) → has_point (ready w) place ≡ true → kinds_of (left w).noted place ≡ []
  pub of_others : (place : ℕ) → has_point (ready w) place ≡ false → kinds_of (left w).noted place ≡ kinds_of w.noted place

-- What a flit tells of a request comes after what was told of it before, unless that drops one that has no point; of the others it
-- changes nothing.
pub record NotesInOrder (time : ℕ) (kinds : List EventKind) (w : PointsValue) : Type 0 where
  pub of_owner : (place : ℕ) → owner kinds ≡ Some place
      → kinds_of (with_told time kinds w).noted place ≡ (if are_dropped kinds && not (has_point w.slots place) then [] else kinds_of w.noted place ++ kinds)
  pub of_others : (place : ℕ) → owner kinds ≢ Some place → kinds_of (with_told time kinds w).noted place ≡ kinds_of w.noted place

-- no request has two points
abbrev pub OnePointEach : List Slot → Type 0
OnePointEach [] = Unit {0}
OnePointEach (slot.Alone e ∷ slots) = OnePointEach slots
OnePointEach (slot.Pointed p ∷ slots) = (has_point slots p.place ≡ false) × OnePointEach slots

-- that stays so
pub record KeepsOnePoint (w : PointsValue) : Type 0 where
  pub with_flit : (time : ℕ) (kinds : List EventKind) → OnePointEach (with_told time kinds w).slots
  pub with_other : (e : Event) → OnePointEach (with_event e w).slots
  pub with_one_more : (time place : ℕ) → OnePointEach (with_point time place w).slots
  pub with_less : OnePointEach (left w).slots

abbrev pub RequestsAreToldOnce : Type 0
RequestsAreToldOnce =
    ((w : PointsValue) → TellsOnce w) × ((time : ℕ) (kinds : List EventKind) (w : PointsValue) → NotesInOrder time kinds w)
    × ((w : PointsValue) → OnePointEach w.slots → KeepsOnePoint w)

-- The number of each of a request's eight operations has its place among the flits, of which a port takes 2^61.
abbrev pub NumbersHavePlaces : Type 0
NumbersHavePlaces = (q : RequestFlit) (place i : ℕ) → place < 2 ^ 61 → i < 8 → place_of (requested_at q place i) ≡ Some place
