-- no request has two points
use Rattle.std.proofs.Common.{◌≡◌, ℕ, ◌++◌, ◌∙◌, ◌&&◌, ◌||◌, Bool, true, false, cond, eqb, not, suc, zero, List, [], ◌∷◌, Option, None, Some, ap, drop, filter, inl, inr, map, refl, sym, true≢false}
use Rattle.std.proofs.lemmas.Bool.Decides.{eqb_tells}
use Rattle.std.proofs.lemmas.List.Folds.{list_any-append}
use Rattle.chi_events.specs.declared.event.Event.{Event}
use Rattle.chi_events.specs.declared.event.EventKind.{EventKind}
use Rattle.chi_points.specs.declared.slot.Slot.{Slot}
use Rattle.chi_points.specs.declared.slot.Slot.TheVariants as slot
use Rattle.chi_points.specs.Known.{are_dropped, is_alone}
use Rattle.chi_points.specs.PointLaws.{OnePointEach}
use Rattle.chi_points.specs.Points.{PointsValue, alone_at, has_point, is_noted, is_point_of, with_owned, with_point}
use Rattle.chi_points.proofs.KindsLeft.{with_drop, with_more}

-- fewer slots
pub of_fewer : (n : ℕ) (slots : List Slot) → OnePointEach slots → OnePointEach (drop n slots)
of_fewer zero slots one = one
of_fewer (suc n) [] one = tt
of_fewer (suc n) (slot.Alone e ∷ slots) one = of_fewer n slots one
of_fewer (suc n) (slot.Pointed p ∷ slots) one = of_fewer n slots one.1

-- events of no request
none_alone : (time : ℕ) (kinds : List EventKind) (place : ℕ) → has_point (map (alone_at time) kinds) place ≡ false
none_alone time [] place = refl
none_alone time (k ∷ kinds) place = none_alone time kinds place

no_more : (slots more : List Slot) (place : ℕ) → has_point more place ≡ false → has_point slots place ≡ false → has_point (slots ++ more) place ≡ false
no_more slots more place none before = list_any-append (is_point_of place) slots more ∙ (ap (λ b. b || has_point more place) before ∙ none)

one_alone : (time : ℕ) (kinds : List EventKind) → OnePointEach (map (alone_at time) kinds)
one_alone time [] = tt
one_alone time (k ∷ kinds) = one_alone time kinds

-- slots whose requests are none of those before
pub of_more : (slots more : List Slot) → ((place : ℕ) → has_point slots place ≡ true → has_point more place ≡ false) → OnePointEach slots → OnePointEach more → OnePointEach (slots ++ more)
of_more [] more apart one others = others
of_more (slot.Alone e ∷ slots) more apart one others = of_more slots more apart one others
of_more (slot.Pointed p ∷ slots) more apart one others = (
  no_more slots more p.place (apart p.place (rw (eqb-refl p.place) refl)) one.0,
  of_more slots more (λ place has. apart place (later place has)) one.1 others,
)
  where
    eqb-refl : (n : ℕ) → eqb n n ≡ true
    eqb-refl n = elim (eqb_tells n n) [ inl same ↦ same.0 | inr other ↦ absurd (other.1 refl) ]

    or_true : (b : Bool) → (b || true) ≡ true
    or_true true = refl
    or_true false = refl

    later : (place : ℕ) → has_point slots place ≡ true → has_point (slot.Pointed p ∷ slots) place ≡ true
    later place has = ap (λ b. eqb p.place place || b) has ∙ or_true (eqb p.place place)

-- a flit more
pub after_flit : (time : ℕ) (kinds : List EventKind) (o : Option ℕ) (w : PointsValue) → OnePointEach w.slots → OnePointEach (with_owned time kinds o w).slots
after_flit time kinds None w one = of_more w.slots (map (alone_at time) kinds) (λ place has. none_alone time kinds place) one (one_alone time kinds)
after_flit time kinds (Some q) w one = by_drop (are_dropped kinds && not (has_point w.slots q))
  where
    by_drop : (b : Bool) → OnePointEach (cond b (with_drop time kinds w q) (with_more time kinds w q)).slots
    by_drop true =
        of_more w.slots (map (alone_at time) (filter is_alone kinds)) (λ place has. none_alone time (filter is_alone kinds) place) one (one_alone time (filter is_alone kinds))
    by_drop false = one

-- an event of no request more
pub after_other : (e : Event) (w : PointsValue) → OnePointEach w.slots → OnePointEach (w.slots ++ slot.Alone e ∷ [])
after_other e w one = of_more w.slots (slot.Alone e ∷ []) (λ place has. refl) one tt

-- a point more
pub after_point : (time place : ℕ) (w : PointsValue) → OnePointEach w.slots → OnePointEach (with_point time place w).slots
after_point time place w one = by_wait (is_noted w.noted place) (has_point w.slots place) refl
  where
    apart : has_point w.slots place ≡ false → (q : ℕ) → has_point w.slots q ≡ true → has_point (slot.Pointed (record { time = time; place = place }) ∷ []) q ≡ false
    apart none q has = elim (eqb_tells place q) [
      | inl same ↦ absurd (true≢false (sym has ∙ ap (has_point w.slots) (sym same.1) ∙ none))
      | inr other ↦ rw other.0 refl
    ]

    by_wait : (noted pointed : Bool) → has_point w.slots place ≡ pointed
        → OnePointEach (cond (noted && not pointed) (record w { slots = w.slots ++ slot.Pointed (record { time = time; place = place }) ∷ []; time = time }) (record w { time = time })).slots
    by_wait true false none = of_more w.slots (slot.Pointed (record { time = time; place = place }) ∷ []) (apart none) one (refl, tt)
    by_wait true true has = one
    by_wait false pointed is = one
