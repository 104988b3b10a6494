-- making two seats one keeps the rule
use Rattle.std.proofs.Common.{◌≡◌, ◌≢◌, ℕ, Bool, true, false, ◌||◌, List, set, refl, sym, ap, subst, ◌∙◌, ◌⊎◌, inl, inr, true≢false}
use mathlib.Core.Logic.{dite}
use mathlib.Core.Option as plain
use native.Mathlib.Decide.{ℕ_discrete}
use lib.ListN.{get_elem?}
use Rattle.chi_history.specs.declared.entry.Entry.{Entry}
use Rattle.chi_history.specs.declared.opening.Opening.{Opening}
use Rattle.chi_history.specs.NumberSets.{Apart, Held}
use Rattle.chi_history.specs.History.{IsFreeOf}
use Rattle.chi_history.specs.NumberLists.{has}
use Rattle.chi_rule.specs.declared.view.View.{View}
use Rattle.chi_rule.specs.Rule.{AreApart, IsHeld, IsSeen, Knows, RuleStands}
use Rattle.chi_rule.specs.Views.{both, gone}
use Rattle.chi_rule.proofs.ViewLemmas.{apart_sym, apart_union, has-append, longest_first, longest_second, meets, union_apart, union_parts}
use Rattle.chi_rule.proofs.Histories.{free-union}
use Rattle.chi_rule.proofs.RuleLemmas.{each_set}
use Rattle.chi_rule.proofs.SplitLemmas.{gone_apart, knows_gone}
use Rattle.chi_rule.proofs.Steps.{Unites}
use Rattle.chi_rule.proofs.ViewLists.{at_once, at_set, set_else, set_here}

-- the seat that two were made knows what both knew
knows_both : (o : Opening) (h : List Entry) (v w : View) → v.live ≡ true → Knows o h v → Knows o h w → Apart (has v.held) (has w.held) → Knows o h (both v w)
knows_both o h v w live k l apart =
    let m = meets v.seen k.precedes.0 w.seen l.precedes.0 (has v.held) (has w.held) (sym k.precedes.1 ∙ l.precedes.1) k.precedes.2 l.precedes.2 in
    record {
      settled = refl;
      opened = λ _. k.opened live;
      spent = λ dead. absurd (true≢false dead);
      numbers = λ r held. elim (union_parts (has v.held) (has w.held) r (ap (λ (f : Held). f r) (sym (has-append v.held w.held)) ∙ held)) [
        | inl mine ↦ k.numbers r mine
        | inr other ↦ l.numbers r other
      ];
      precedes = (m.rest, k.precedes.1 ∙ m.whole, subst (λ (z : Held). IsFreeOf z m.rest) (sym (has-append v.held w.held)) (free-union (has v.held) (has w.held) m.rest m.free m.other_free));
      joint = (apart, m.joins);
    }

-- where a view of the joined store comes from: the spent seat, the joined one, or another
Origin : (views : List View) (id : ℕ) (b : View) (other i : ℕ) (u : View) → Type 0
Origin views id b other i u = (gone ≡ u) ⊎ (((i ≡ id) × (b ≡ u)) ⊎ ((i ≢ other) × (i ≢ id) × (get_elem? views i ≡ plain.some u)))

-- each view of the joined store comes from one of these
origin : (views : List View) (id : ℕ) (b : View) (other i : ℕ) (u : View) → get_elem? (set (set views id b) other gone) i ≡ plain.some u → Origin views id b other i u
unfolding Origin
origin views id b other i u at = elim (at_set (set views id b) other i gone u at) [
  | inl t ↦ inl t.1
  | inr t ↦ elim (at_set views id i b u t.1) [
    | inl t' ↦ inr (inl t')
    | inr t' ↦ inr (inr (t.0, t'.0, t'.1))
  ]
]

-- two views of the joined store hold no number both
apart_join : (views : List View) (id : ℕ) (v : View) (other : ℕ) (w : View) → AreApart views → get_elem? views id ≡ plain.some v → get_elem? views other ≡ plain.some w
    → (i j : ℕ) (u x : View) → i ≢ j → Origin views id (both v w) other i u → Origin views id (both v w) other j x → Apart (has u.held) (has x.held)
unfolding Origin
apart_join views id v other w apart at there i j u x differ (inl t) from =
    subst (λ (z : View). Apart (has z.held) (has x.held)) t (apart_sym (has x.held) (has gone.held) (gone_apart (has x.held)))
apart_join views id v other w apart at there i j u x differ (inr t) (inl t') =
    subst (λ (z : View). Apart (has u.held) (has z.held)) t' (gone_apart (has u.held))
apart_join views id v other w apart at there i j u x differ (inr (inl t)) (inr (inl t')) = absurd (differ (t.0 ∙ sym t'.0))
apart_join views id v other w apart at there i j u x differ (inr (inl t)) (inr (inr t')) =
    subst (λ (z : View). Apart (has z.held) (has x.held)) t.1
    (subst (λ (z : Held). Apart z (has x.held)) (sym (has-append v.held w.held))
    (apart_union (has v.held) (has w.held) (has x.held) (apart id j v x (λ e. t'.1 (sym e)) at t'.2) (apart other j w x (λ e. t'.0 (sym e)) there t'.2)))
apart_join views id v other w apart at there i j u x differ (inr (inr t)) (inr (inl t')) =
    subst (λ (z : View). Apart (has u.held) (has z.held)) t'.1
    (subst (λ (z : Held). Apart (has u.held) z) (sym (has-append v.held w.held))
    (union_apart (has v.held) (has w.held) (has u.held) (apart i id u v t.1 t.2 at) (apart i other u w t.0 t.2 there)))
apart_join views id v other w apart at there i j u x differ (inr (inr t)) (inr (inr t')) = apart i j u x differ t.2 t'.2

-- the joined seat stands where the first of the two stood
joined_at : (views : List View) (id : ℕ) (v : View) (other : ℕ) (w : View) → ¬ (other ≡ id) → get_elem? views id ≡ plain.some v
    → get_elem? (set (set views id (both v w)) other gone) id ≡ plain.some (both v w)
joined_at views id v other w differ at = set_else (set views id (both v w)) other id gone (λ e. differ (sym e)) ∙ set_here views id (both v w) v at

-- a number that was held is held by the joined seat, where one of the two held it
held_join : (views : List View) (id : ℕ) (v : View) (other : ℕ) (w : View) → ¬ (other ≡ id) → get_elem? views id ≡ plain.some v
    → get_elem? views other ≡ plain.some w → (r : ℕ) → IsHeld r views → IsHeld r (set (set views id (both v w)) other gone)
held_join views id v other w differ at there r held = dite (ℕ_discrete held.0 id)
    (λ here.
    let e : held.1 ≡ v = at_once views id held.1 v (ap (get_elem? views) (sym here) ∙ held.2) at in
    mine (first (has w.held r) (subst (λ (z : View). has z.held r ≡ true) e held.3)))
    (λ not_id. dite (ℕ_discrete held.0 other)
    (λ here.
    let e : held.1 ≡ w = at_once views other held.1 w (ap (get_elem? views) (sym here) ∙ held.2) there in
    mine (second (has v.held r) (subst (λ (z : View). has z.held r ≡ true) e held.3)))
    (λ not_other. (held.0, held.1, set_else (set views id (both v w)) other held.0 gone not_other ∙ (set_else views id held.0 (both v w) not_id ∙ held.2), held.3)))
  where
    first : (b : Bool) → has v.held r ≡ true → (has v.held r || b) ≡ true
    first b is = ap (λ a. a || b) is

    second : (a : Bool) → has w.held r ≡ true → (a || has w.held r) ≡ true
    second true is = refl
    second false is = is

    mine : (has v.held r || has w.held r) ≡ true → IsHeld r (set (set views id (both v w)) other gone)
    mine is = (id, both v w, joined_at views id v other w differ at, ap (λ (f : Held). f r) (has-append v.held w.held) ∙ is)

-- the history is seen by the joined seat where one of the two had seen it
seen_join : (o : Opening) (h : List Entry) (views : List View) (id : ℕ) (v : View) (other : ℕ) (w : View) → ¬ (other ≡ id) → get_elem? views id ≡ plain.some v
    → get_elem? views other ≡ plain.some w → Knows o h v → Knows o h w → IsSeen h views → IsSeen h (set (set views id (both v w)) other gone)
seen_join o h views id v other w differ at there k l seen = dite (ℕ_discrete seen.0 id)
    (λ here.
    let e : seen.1 ≡ v = at_once views id seen.1 v (ap (get_elem? views) (sym here) ∙ seen.2) at in
    let all : v.seen ≡ h = ap (λ (z : View). z.seen) (sym e) ∙ seen.3 in
    (id, both v w, joined, longest_first v.seen l.precedes.0 w.seen (sym l.precedes.1 ∙ sym all) ∙ all))
    (λ not_id. dite (ℕ_discrete seen.0 other)
    (λ here.
    let e : seen.1 ≡ w = at_once views other seen.1 w (ap (get_elem? views) (sym here) ∙ seen.2) there in
    let all : w.seen ≡ h = ap (λ (z : View). z.seen) (sym e) ∙ seen.3 in
    (id, both v w, joined, longest_second v.seen k.precedes.0 w.seen (sym k.precedes.1 ∙ sym all) ∙ all))
    (λ not_other. (seen.0, seen.1, set_else (set views id (both v w)) other seen.0 gone not_other ∙ (set_else views id seen.0 (both v w) not_id ∙ seen.2), seen.3)))
  where
    joined : get_elem? (set (set views id (both v w)) other gone) id ≡ plain.some (both v w)
    joined = joined_at views id v other w differ at

-- two seats are made one
pub unites : (count : ℕ) (o : Opening) (id : ℕ) (v : View) (other : ℕ) (w : View) → v.live ≡ true → Unites count o id v other w (both v w) gone
unites count o id v other w live words views kept at differ at_other = (
  h,
  record {
    region = s.region;
    room = s.room;
    legal = s.legal;
    counted = s.counted;
    written = s.written;
    zeros = s.zeros;
    each = each_set o h (set views id (both v w)) other gone (knows_gone o h) (λ j u not_other at_j.
        each_set o h views id (both v w) (knows_both o h v w live (s.each id v at) (s.each other w there) (s.apart id other v w (λ e. differ (sym e)) at there))
        (λ i x _. s.each i x) j u at_j);
    apart = λ i j u x not_same at_i at_j.
        apart_join views id v other w s.apart at there i j u x not_same (origin views id (both v w) other i u at_i) (origin views id (both v w) other j x at_j);
    longest = seen_join o h views id v other w differ at there (s.each id v at) (s.each other w there) s.longest;
    covered = λ r under. held_join views id v other w differ at there r (s.covered r under);
  },
)
  where
    h : List Entry
    h = kept.0

    s : RuleStands count o h words views
    s = kept.1

    there : get_elem? views other ≡ plain.some w
    there = sym (set_else views id other (both v w) differ) ∙ at_other
