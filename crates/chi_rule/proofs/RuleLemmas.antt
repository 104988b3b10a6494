-- how the rule is kept where views change
use Rattle.std.proofs.Common.{◌≡◌, ◌≢◌, ℕ, ◌<◌, ◌≤◌, true, List, [], ◌∷◌, ◌++◌, length, set, slice_index, sym, ap, subst, ◌∙◌, inl, inr, append_assoc}
use mathlib.Core.Logic.{dite}
use mathlib.Core.Option as plain
use native.Mathlib.Decide.{ℕ_discrete}
use lib.ListN.{get_elem?}
use Rattle.chi_history.specs.declared.entry.Entry.{Entry}
use Rattle.chi_history.specs.declared.opening.Opening.{Opening}
use Rattle.chi_history.specs.NumberSets.{Apart}
use Rattle.chi_history.specs.History.{IsFreeOf, IsLegal}
use Rattle.chi_history.specs.NumberLists.{has}
use Rattle.chi_history.proofs.HistoryLemmas.{free-append}
use Rattle.chi_rule.specs.declared.view.View.{View}
use Rattle.chi_rule.specs.Rule.{AreApart, EachKnows, IsHeld, IsSeen, Knows, RuleStands, shown}
use Rattle.chi_rule.proofs.ViewLemmas.{Within, apart_sym, within_apart}
use Rattle.chi_rule.proofs.ViewLists.{at_end, at_longer, at_once, at_set, set_else, set_here}

-- views that each hold a part of what the view at the same place held
pub apart_within : (views views' : List View) → AreApart views
    → ((i : ℕ) (v : View) → get_elem? views' i ≡ plain.some v → (u : View) × (get_elem? views i ≡ plain.some u) × Within (has v.held) (has u.held))
    → AreApart views'
apart_within views views' apart from i j v w differ at_i at_j =
    let x = from i v at_i in
    let y = from j w at_j in
    within_apart (has x.0.held) (has y.0.held) (has v.held) (has w.held) (apart i j x.0 y.0 differ x.1 y.1) x.2 y.2

-- one view holds no more than it held
pub apart_set : (views : List View) (id : ℕ) (v w : View) → AreApart views → get_elem? views id ≡ plain.some v → Within (has w.held) (has v.held)
    → AreApart (set views id w)
apart_set views id v w apart at within = apart_within views (set views id w) apart (λ i u at_i. elim (at_set views id i w u at_i) [
  | inl t ↦ (v, ap (get_elem? views) t.0 ∙ at, subst (λ (z : View). Within (has z.held) (has v.held)) t.1 within)
  | inr t ↦ (u, t.1, λ r h. h)
])

-- one view more
pub apart_end : (views : List View) (w : View) → AreApart views → ((i : ℕ) (u : View) → get_elem? views i ≡ plain.some u → Apart (has w.held) (has u.held))
    → AreApart (views ++ w ∷ [])
apart_end views w apart fits i j u x differ at_i at_j = elim (at_end views w u i at_i) [
  | inl old ↦ elim (at_end views w x j at_j) [
    | inl old' ↦ apart i j u x differ old old'
    | inr t ↦ subst (λ (z : View). Apart (has u.held) (has z.held)) t.1 (apart_sym (has w.held) (has u.held) (fits i u old))
  ]
  | inr t ↦ elim (at_end views w x j at_j) [
    | inl old' ↦ subst (λ (z : View). Apart (has z.held) (has x.held)) t.1 (fits j x old')
    | inr t' ↦ absurd (differ (t.0 ∙ sym t'.0))
  ]
]

-- a changed view knows, and so do the others
pub each_set : (o : Opening) (h : List Entry) (views : List View) (id : ℕ) (w : View) → Knows o h w
    → ((j : ℕ) (u : View) → j ≢ id → get_elem? views j ≡ plain.some u → Knows o h u) → EachKnows o h (set views id w)
each_set o h views id w mine others j u at = elim (at_set views id j w u at) [
  | inl t ↦ subst (λ (z : View). Knows o h z) t.1 mine
  | inr t ↦ others j u t.0 t.1
]

-- one view more knows
pub each_end : (o : Opening) (h : List Entry) (views : List View) (w : View) → EachKnows o h views → Knows o h w → EachKnows o h (views ++ w ∷ [])
each_end o h views w each mine j u at = elim (at_end views w u j at) [
  | inl old ↦ each j u old
  | inr t ↦ subst (λ (z : View). Knows o h z) t.1 mine
]

-- a changed view that has seen as much as before leaves the history seen
pub seen_set : (h : List Entry) (views : List View) (id : ℕ) (v w : View) → get_elem? views id ≡ plain.some v → w.seen ≡ v.seen
    → IsSeen h views → IsSeen h (set views id w)
seen_set h views id v w at same seen = dite (ℕ_discrete seen.0 id)
    (λ here. let e : seen.1 ≡ v = at_once views id seen.1 v (ap (get_elem? views) (sym here) ∙ seen.2) at in
    (id, w, set_here views id w v at, same ∙ (ap (λ (z : View). z.seen) (sym e) ∙ seen.3)))
    (λ other. (seen.0, seen.1, set_else views id seen.0 w other ∙ seen.2, seen.3))

-- a changed view that has seen all
pub seen_here : (h : List Entry) (views : List View) (id : ℕ) (v w : View) → get_elem? views id ≡ plain.some v → w.seen ≡ h → IsSeen h (set views id w)
seen_here h views id v w at all = (id, w, set_here views id w v at, all)

-- one view more leaves the history seen
pub seen_end : (h : List Entry) (views : List View) (w : View) → IsSeen h views → IsSeen h (views ++ w ∷ [])
seen_end h views w seen = (seen.0, seen.1, at_longer views w seen.1 seen.0 seen.2, seen.3)

-- a changed view that holds what it held leaves a number held
pub held_set : (views : List View) (id : ℕ) (v w : View) → get_elem? views id ≡ plain.some v → Within (has v.held) (has w.held) → (r : ℕ)
    → IsHeld r views → IsHeld r (set views id w)
held_set views id v w at within r held = dite (ℕ_discrete held.0 id)
    (λ here. let e : held.1 ≡ v = at_once views id held.1 v (ap (get_elem? views) (sym here) ∙ held.2) at in
    (id, w, set_here views id w v at, within r (subst (λ (z : View). has z.held r ≡ true) e held.3)))
    (λ other. (held.0, held.1, set_else views id held.0 w other ∙ held.2, held.3))

-- one view more leaves a number held
pub held_end : (views : List View) (w : View) (r : ℕ) → IsHeld r views → IsHeld r (views ++ w ∷ [])
held_end views w r held = (held.0, held.1, at_longer views w held.1 held.0 held.2, held.3)

-- what a view knows stays known where the history goes on by entries of others
pub knows_more : (o : Opening) (h tail : List Entry) (v : View) → Knows o h v → IsFreeOf (has v.held) tail → Knows o (h ++ tail) v
knows_more o h tail v k free = record {
  settled = k.settled;
  opened = k.opened;
  spent = k.spent;
  numbers = k.numbers;
  precedes = (k.precedes.0 ++ tail, ap (λ l. l ++ tail) k.precedes.1 ∙ append_assoc v.seen k.precedes.0 tail, free-append (has v.held) k.precedes.0 tail k.precedes.2 free);
  joint = k.joint;
}

-- one seat steps, the history goes on by a tail, and no view but the seat's changes
pub advance : (count : ℕ) (o : Opening) (h : List Entry) (words : List ℕ) (views : List View) → RuleStands count o h words views
    → (id : ℕ) (v w : View) → get_elem? views id ≡ plain.some v → (tail : List Entry) (words' : List ℕ) → IsLegal o (h ++ tail) → length words' ≡ count
    → ((g : ℕ) → g < o.region.granules → slice_index words' g ≡ shown o (h ++ tail) g) → ((g : ℕ) → o.region.granules ≤ g → slice_index words' g ≡ 0)
    → Knows o (h ++ tail) w → Within (has w.held) (has v.held) → Within (has v.held) (has w.held)
    → ((j : ℕ) (u : View) → j ≢ id → get_elem? views j ≡ plain.some u → IsFreeOf (has u.held) tail)
    → IsSeen (h ++ tail) (set views id w) → RuleStands count o (h ++ tail) words' (set views id w)
advance count o h words views s id v w at tail words' legal counted written zeros mine within all others seen = record {
  region = s.region;
  room = s.room;
  legal = legal;
  counted = counted;
  written = written;
  zeros = zeros;
  each = each_set o (h ++ tail) views id w mine (λ j u other at_j. knows_more o h tail u (s.each j u at_j) (others j u other at_j));
  apart = apart_set views id v w s.apart at within;
  longest = seen;
  covered = λ r under. held_set views id v w at all r (s.covered r under);
}

-- one seat steps, and neither the words nor the history change
pub unmoved : (count : ℕ) (o : Opening) (h : List Entry) (words : List ℕ) (views : List View) → RuleStands count o h words views
    → (id : ℕ) (v w : View) → get_elem? views id ≡ plain.some v → Knows o h w → Within (has w.held) (has v.held) → Within (has v.held) (has w.held)
    → IsSeen h (set views id w) → RuleStands count o h words (set views id w)
unmoved count o h words views s id v w at mine within all seen = record {
  region = s.region;
  room = s.room;
  legal = s.legal;
  counted = s.counted;
  written = s.written;
  zeros = s.zeros;
  each = each_set o h views id w mine (λ j u other at_j. s.each j u at_j);
  apart = apart_set views id v w s.apart at within;
  longest = seen;
  covered = λ r under. held_set views id v w at all r (s.covered r under);
}

-- a seat comes that holds what no other holds
pub arrives : (count : ℕ) (o : Opening) (h : List Entry) (words : List ℕ) (views : List View) → RuleStands count o h words views
    → (w : View) → Knows o h w → ((i : ℕ) (u : View) → get_elem? views i ≡ plain.some u → Apart (has w.held) (has u.held))
    → RuleStands count o h words (views ++ w ∷ [])
arrives count o h words views s w mine fits = record {
  region = s.region;
  room = s.room;
  legal = s.legal;
  counted = s.counted;
  written = s.written;
  zeros = s.zeros;
  each = each_end o h views w s.each mine;
  apart = apart_end views w s.apart fits;
  longest = seen_end h views w s.longest;
  covered = λ r under. held_end views w r (s.covered r under);
}
