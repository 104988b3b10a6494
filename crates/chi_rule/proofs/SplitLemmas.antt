-- making a store, and cutting a view in two, keep the rule
use Rattle.std.proofs.Common.{◌≡◌, ◌⊎◌, ℕ, zero, suc, ◌≤◌, ◌==◌, Bool, true, false, not, ◌&&◌, List, [], ◌∷◌, ◌++◌, length, replicate, set, refl, sym, ap, subst, ◌∙◌, inl, inr, true≢false, eqb-true}
use Rattle.std.proofs.lemmas.Bool.{ltb-true}
use Rattle.std.proofs.lemmas.List.{length-replicate}
use Rattle.std.specs.Int.Bits.{xor_self}
use mathlib.Core.Logic.{dite}
use mathlib.Core.Option as plain
use native.Mathlib.Decide.{ℕ_discrete}
use lib.ListN.{get_elem?}
use Rattle.chi_fields.specs.Extent.{IsRegion}
use Rattle.chi_history.specs.declared.entry.Entry.{Entry}
use Rattle.chi_history.specs.declared.opening.Opening.{Opening}
use Rattle.chi_history.specs.NumberSets.{Apart, Held}
use Rattle.chi_history.specs.History.{IsLegalFrom, end_from}
use Rattle.chi_history.specs.NumberLists.{has}
use Rattle.chi_history.proofs.HeldLemmas.{without-held}
use Rattle.chi_history.proofs.HistoryLemmas.{free-within}
use Rattle.chi_rule.specs.declared.view.View.{View}
use Rattle.chi_rule.specs.Rule.{IsHeld, IsSeen, Knows, RuleStands, first_word}
use Rattle.chi_rule.specs.Views.{all_below, all_but, alone, gone, knower, rest_of}
use Rattle.chi_rule.proofs.Histories.{free-nobody}
use Rattle.chi_rule.proofs.RuleLemmas.{apart_end, apart_set, each_end, each_set, held_end, seen_end, seen_set}
use Rattle.chi_rule.proofs.StepLemmas.{below_all, knows_all}
use Rattle.chi_rule.proofs.Steps.{Parts}
use Rattle.chi_rule.proofs.ViewLemmas.{Within, has-all_below, has-all_but, has-only, within_apart}
use Rattle.chi_rule.proofs.ViewLists.{at_last, at_longer, at_once, at_set, set_else, set_here, zeros_are}

-- a seat that was joined away knows
pub knows_gone : (o : Opening) (h : List Entry) → Knows o h gone
unfolding has
knows_gone o h = record {
  settled = refl;
  opened = λ live. absurd (true≢false (sym live));
  spent = λ _. (refl, refl);
  numbers = λ r held. absurd (true≢false (sym held));
  precedes = (h, refl, free-nobody h);
  joint = tt;
}

-- it holds no number
pub gone_within : (held : Held) → Within (has gone.held) held
unfolding has
gone_within held r is = absurd (true≢false (sym is))

-- and shares none with any other
pub gone_apart : (held : Held) → Apart held (has gone.held)
unfolding has
gone_apart held r is = refl

-- a seat with some of the numbers that another holds, and with what it has seen, knows
knows_within : (o : Opening) (h : List Entry) (v : View) (held : List ℕ) → v.live ≡ true → Within (has held) (has v.held) → Knows o h v → Knows o h (knower v.opening held v.seen)
knows_within o h v held live within k = record {
  settled = refl;
  opened = λ _. k.opened live;
  spent = λ dead. absurd (true≢false dead);
  numbers = λ r is. k.numbers r (within r is);
  precedes = (k.precedes.0, k.precedes.1, free-within (has v.held) (has held) k.precedes.0 within k.precedes.2);
  joint = tt;
}

-- what is left without a number was there
all_but_within : (src : ℕ) (held : List ℕ) → Within (has (all_but src held)) (has held)
all_but_within src held = subst (λ (z : Held). Within z (has held)) (sym (has-all_but src held)) (λ r is. without-held src (has held) r is)

-- a number that is held
only_within : (src : ℕ) (held : List ℕ) → has held src ≡ true → Within (has (src ∷ [])) (has held)
only_within src held holds = subst (λ (z : Held). Within z (has held)) (sym (has-only src)) (λ r is. ap (has held) (eqb-true r src is) ∙ holds)

-- a number alone, and what is left without it
only_apart : (src : ℕ) (held : List ℕ) → Apart (has (src ∷ [])) (has (all_but src held))
only_apart src held =
    subst (λ (z : Held × Held). Apart z.0 z.1) (λ i. (sym (has-only src) i, sym (has-all_but src held) i)) (λ r is. rw is (and_false (has held r)))
  where
    and_false : (b : Bool) → (b && false) ≡ false
    and_false true = refl
    and_false false = refl

-- a number that is held is left, or is that one
only_or_left : (src : ℕ) (held : List ℕ) (r : ℕ) → has held r ≡ true → (has (all_but src held) r ≡ true) ⊎ (has (src ∷ []) r ≡ true)
only_or_left src held r is = by_test (r == src) refl
  where
    by_test : (b : Bool) → (r == src) ≡ b → (has (all_but src held) r ≡ true) ⊎ (has (src ∷ []) r ≡ true)
    by_test true same = inr (ap (λ (f : Held). f r) (has-only src) ∙ same)
    by_test false differ = inl (ap (λ (f : Held). f r) (has-all_but src held) ∙ (λ i. is i && not (differ i)))

-- one view becomes two, which hold its numbers between them
cut : (count : ℕ) (o : Opening) (h : List Entry) (words : List ℕ) (views : List View) → RuleStands count o h words views
    → (id : ℕ) (v left right : View) → get_elem? views id ≡ plain.some v → Knows o h left → Knows o h right
    → Within (has left.held) (has v.held) → Within (has right.held) (has v.held) → Apart (has right.held) (has left.held)
    → ((r : ℕ) → has v.held r ≡ true → (has left.held r ≡ true) ⊎ (has right.held r ≡ true))
    → IsSeen h (set views id left ++ right ∷ []) → RuleStands count o h words (set views id left ++ right ∷ [])
cut count o h words views s id v left right at of_left of_right within_left within_right apart either seen = record {
  region = s.region;
  room = s.room;
  legal = s.legal;
  counted = s.counted;
  written = s.written;
  zeros = s.zeros;
  each = each_end o h (set views id left) right (each_set o h views id left of_left (λ j u other at_j. s.each j u at_j)) of_right;
  apart = apart_end (set views id left) right (apart_set views id v left s.apart at within_left) (λ i u at_i. elim (at_set views id i left u at_i) [
    | inl t ↦ subst (λ (z : View). Apart (has right.held) (has z.held)) t.1 apart
    | inr t ↦ within_apart (has v.held) (has u.held) (has right.held) (has u.held) (s.apart id i v u (λ e. t.0 (sym e)) at t.1) within_right (λ r is. is)
  ]);
  longest = seen;
  covered = λ r under. covers r (s.covered r under);
}
  where
    covers : (r : ℕ) → IsHeld r views → IsHeld r (set views id left ++ right ∷ [])
    covers r held = dite (ℕ_discrete held.0 id)
        (λ here. let e : held.1 ≡ v = at_once views id held.1 v (ap (get_elem? views) (sym here) ∙ held.2) at in
        elim (either r (subst (λ (z : View). has z.held r ≡ true) e held.3)) [
          | inl mine ↦ held_end (set views id left) right r (id, left, set_here views id left v at, mine)
          | inr other ↦ (length (set views id left), right, at_last (set views id left) right, other)
        ])
        (λ other. held_end (set views id left) right r (held.0, held.1, set_else views id held.0 left other ∙ held.2, held.3))

-- one number gets a seat of its own
pub splits : (count : ℕ) (o : Opening) (id : ℕ) (v : View) (src : ℕ) → v.live ≡ true → has v.held src ≡ true → Parts count o id v (rest_of src v) (alone src v)
splits count o id v src live holds words views kept at =
    let h : List Entry = kept.0 in
    let s = kept.1 in
    let k = s.each id v at in
    let left : View = rest_of src v in
    let right : View = alone src v in (
      h,
      cut count o h words views s id v left right at (knows_within o h v (all_but src v.held) live (all_but_within src v.held) k) (knows_within o h v (src ∷ []) live (only_within src v.held holds) k)
          (all_but_within src v.held) (only_within src v.held holds) (only_apart src v.held) (only_or_left src v.held)
          (seen_end h (set views id left) right (seen_set h views id v left at refl s.longest)),
    )

-- a view goes whole to a new seat
pub moves : (count : ℕ) (o : Opening) (id : ℕ) (v : View) → Parts count o id v gone v
moves count o id v words views kept at = (
  h,
  cut count o h words views s id v gone v at (knows_gone o h) (s.each id v at) (gone_within (has v.held)) (λ r is. is) (gone_apart (has v.held)) (λ r is. inr is) seen,
)
  where
    h : List Entry
    h = kept.0

    s : RuleStands count o h words views
    s = kept.1

    seen : IsSeen h (set views id gone ++ v ∷ [])
    seen = dite (ℕ_discrete s.longest.0 id)
        (λ here. let e : s.longest.1 ≡ v = at_once views id s.longest.1 v (ap (get_elem? views) (sym here) ∙ s.longest.2) at in
        (length (set views id gone), v, at_last (set views id gone) v, ap (λ (z : View). z.seen) (sym e) ∙ s.longest.3))
        (λ other. (s.longest.0, s.longest.1, at_longer (set views id gone) v s.longest.1 s.longest.0 (set_else views id s.longest.0 gone other ∙ s.longest.2), s.longest.3))

-- a list of one has one item
pub one_at : (v u : View) (i : ℕ) → get_elem? (v ∷ []) i ≡ plain.some u → (i ≡ 0) × (v ≡ u)
one_at v u zero at = (refl, plain.some-injective v u at)
one_at v u (suc i) at = absurd (plain.some-ne-none u (sym at))

-- a store opens with zeros, and one seat that holds every number and has seen nothing
pub opens : (count : ℕ) (o : Opening) → IsRegion o.region → o.region.granules ≤ count
    → RuleStands count o [] (replicate count 0) (knower o (all_below o.requesters) [] ∷ [])
unfolding end_from IsLegalFrom
opens count o is room = record {
  region = is;
  room = room;
  legal = tt;
  counted = length-replicate count 0;
  written = λ g under. zeros_are count g ∙ sym (xor_self (first_word o g));
  zeros = λ g past. zeros_are count g;
  each = λ i u at. subst (λ (z : View). Knows o [] z) (one_at (knower o (all_below o.requesters) []) u i at).1
      (knows_all o [] (all_below o.requesters) (λ r held. ltb-true r o.requesters (ap (λ (f : Held). f r) (sym (has-all_below o.requesters)) ∙ held)));
  apart = λ i j u x differ at_i at_j. absurd (differ ((one_at _ u i at_i).0 ∙ sym (one_at _ x j at_j).0));
  longest = (0, knower o (all_below o.requesters) [], refl, refl);
  covered = λ r under. (0, knower o (all_below o.requesters) [], refl, below_all o (has (all_below o.requesters)) (has-all_below o.requesters) r under);
}
