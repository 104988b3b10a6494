-- what is left of what was told of a request
use Rattle.std.proofs.Common.{◌≡◌, ◌≢◌, ℕ, ◌++◌, ◌∙◌, ◌&&◌, Bool, true, false, cond, eqb, not, List, [], ◌∷◌, Option, None, Some, ap, append-nil, filter, inl, inr, map, refl, sym}
use Rattle.std.proofs.lemmas.Bool.Decides.{eqb_tells}
use Rattle.std.proofs.lemmas.List.Elements.{filter_map-append}
use Rattle.chi_events.specs.declared.event.EventKind.{EventKind}
use Rattle.chi_points.specs.declared.slot.Noted.{Noted}
use Rattle.chi_points.specs.Points.{PointsValue, alone_at, has_point, kind_at, kinds_of, noted_of, with_owned}
use Rattle.chi_points.specs.Known.{are_dropped, is_alone}

-- what was told of another request, left there or not
skip : (keep : Bool) (p : ℕ) (n : Noted) (noted : List Noted) (kinds : List EventKind) → eqb n.place p ≡ false → kinds_of noted p ≡ kinds → kinds_of (cond keep (n ∷ noted) noted) p ≡ kinds
skip true p n noted kinds other rest = rw other rest
skip false p n noted kinds other rest = rest

-- where one test keeps what was told of a request and not of another
module _ (test : ℕ → Bool) (p : ℕ) where
  none_step : test p ≡ false → (n : Noted) (noted : List Noted) → kinds_of (filter (λ m. test m.place) noted) p ≡ [] → kinds_of (filter (λ m. test m.place) (n ∷ noted)) p ≡ []
  none_step gone n noted rest = elim (eqb_tells n.place p) [
    | inl same ↦ rw (ap test same.1 ∙ gone) rest
    | inr other ↦ skip (test n.place) p n (filter (λ m. test m.place) noted) [] other.0 rest
  ]

  pub none_left : test p ≡ false → (noted : List Noted) → kinds_of (filter (λ m. test m.place) noted) p ≡ []
  none_left gone [] = refl
  none_left gone (n ∷ noted) = none_step gone n noted (none_left gone noted)

  all_step : test p ≡ true → (n : Noted) (noted : List Noted) → kinds_of (filter (λ m. test m.place) noted) p ≡ kinds_of noted p
      → kinds_of (filter (λ m. test m.place) (n ∷ noted)) p ≡ kinds_of (n ∷ noted) p
  all_step stays n noted rest = elim (eqb_tells n.place p) [
    | inl same ↦ rw (ap test same.1 ∙ stays, same.0) (ap (λ l. n.kind ∷ l) rest)
    | inr other ↦ skip (test n.place) p n (filter (λ m. test m.place) noted) (kinds_of noted p) other.0 rest ∙ sym (skip true p n noted (kinds_of noted p) other.0 refl)
  ]

  pub all_left : test p ≡ true → (noted : List Noted) → kinds_of (filter (λ m. test m.place) noted) p ≡ kinds_of noted p
  all_left stays [] = refl
  all_left stays (n ∷ noted) = all_step stays n noted (all_left stays noted)

-- what one flit told of a request
eqb-refl : (p : ℕ) → eqb p p ≡ true
eqb-refl p = elim (eqb_tells p p) [ inl same ↦ same.0 | inr other ↦ absurd (other.1 refl) ]

of_same : (p : ℕ) (kinds : List EventKind) → kinds_of (map (noted_of p) kinds) p ≡ kinds
of_same p [] = refl
of_same p (k ∷ kinds) = rw (eqb-refl p) (ap (λ l. k ∷ l) (of_same p kinds))

of_other : (p q : ℕ) → eqb q p ≡ false → (kinds : List EventKind) → kinds_of (map (noted_of q) kinds) p ≡ []
of_other p q other [] = refl
of_other p q other (k ∷ kinds) = rw other (of_other p q other kinds)

not_same : (p q : ℕ) → q ≢ p → eqb q p ≡ false
not_same p q differ = elim (eqb_tells q p) [ inl same ↦ absurd (differ same.1) | inr other ↦ other.0 ]

-- what waits with it: of a request that was dropped, and of another one
abbrev pub with_drop : ℕ → List EventKind → PointsValue → ℕ → PointsValue
with_drop time kinds w q =
    record w { slots = w.slots ++ map (alone_at time) (filter is_alone kinds); noted = filter (λ n. not (eqb n.place q)) w.noted; time = time }

abbrev pub with_more : ℕ → List EventKind → PointsValue → ℕ → PointsValue
with_more time kinds w q = record w { noted = w.noted ++ map (noted_of q) kinds; time = time }

module _ (time : ℕ) (kinds : List EventKind) (w : PointsValue) where
  by_drop : (b : Bool) (p : ℕ) → kinds_of (cond b (with_drop time kinds w p) (with_more time kinds w p)).noted p ≡ cond b [] (kinds_of w.noted p ++ kinds)
  by_drop true p = none_left (λ m. not (eqb m p)) p (ap not (eqb-refl p)) w.noted
  by_drop false p = filter_map-append (kind_at p) w.noted (map (noted_of p) kinds) ∙ ap (λ l. kinds_of w.noted p ++ l) (of_same p kinds)

  by_other : (b : Bool) (p q : ℕ) → q ≢ p → kinds_of (cond b (with_drop time kinds w q) (with_more time kinds w q)).noted p ≡ kinds_of w.noted p
  by_other true p q differ = all_left (λ m. not (eqb m q)) p (ap not (not_same q p (λ e. differ (sym e)))) w.noted
  by_other false p q differ =
      filter_map-append (kind_at p) w.noted (map (noted_of q) kinds) ∙ ap (λ l. kinds_of w.noted p ++ l) (of_other p q (not_same p q differ) kinds)
      ∙ append-nil (kinds_of w.noted p)

  pub of_owner : (o : Option ℕ) (p : ℕ) → o ≡ Some p → kinds_of (with_owned time kinds o w).noted p ≡ cond (are_dropped kinds && not (has_point w.slots p)) [] (kinds_of w.noted p ++ kinds)
  of_owner o p is = rw is (by_drop (are_dropped kinds && not (has_point w.slots p)) p)

  pub of_others : (o : Option ℕ) (p : ℕ) → o ≢ Some p → kinds_of (with_owned time kinds o w).noted p ≡ kinds_of w.noted p
  of_others None p differ = refl
  of_others (Some q) p differ = by_other (are_dropped kinds && not (has_point w.slots q)) p q (λ e. differ (ap Some e))
