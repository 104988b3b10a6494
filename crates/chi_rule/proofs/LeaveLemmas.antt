-- which steps leave the history
use Rattle.std.proofs.Common.{◌≡◌, ℕ, List, [], ◌∷◌, ◌++◌, length, set, refl, sym, ap, ◌∙◌, inl, inr, arith, append_assoc, append-nil, length-append}
use mathlib.Core.Logic.{dite}
use mathlib.Core.Option as plain
use native.Mathlib.Decide.{ℕ_discrete}
use lib.ListN.{get_elem?}
use Rattle.chi_history.specs.declared.entry.Entry.{Entry}
use Rattle.chi_history.specs.declared.opening.Opening.{Opening}
use Rattle.chi_history.specs.NumberLists.{has}
use Rattle.chi_rule.specs.declared.view.View.{View}
use Rattle.chi_rule.specs.Rule.{RuleStands}
use Rattle.chi_rule.specs.Views.{both, gone}
use Rattle.chi_rule.specs.Events.{IsOneHistory, JoinLeaves, MoveLeaves, ReadLeaves, SplitLeaves}
use Rattle.chi_rule.proofs.ViewLemmas.{Meets, meets}
use Rattle.chi_rule.proofs.ViewLists.{at_end, at_last, at_longer, at_once, at_set, set_else, set_here}

-- two histories that each go on the other are one
one_of_two : (a b r s : List Entry) → b ≡ a ++ r → a ≡ b ++ s → a ≡ b
one_of_two a b [] s p q = sym (p ∙ append-nil a)
one_of_two a b (x ∷ xs) s p q =
    let first : length b ≡ length (a ++ x ∷ xs) = ap length p in
    let second : length a ≡ length (b ++ s) = ap length q in
    absurd (omega (arith, length-append a (x ∷ xs), length-append b s))

-- what each seat has seen, some seat has seen among these views
abbrev pub Covers : List View → List View → Type 0
Covers views views' = (i : ℕ) (u : View) → get_elem? views i ≡ plain.some u
    → (j : ℕ) × (w : View) × (get_elem? views' j ≡ plain.some w) × ((rest : List Entry) × (w.seen ≡ u.seen ++ rest))

-- then the history goes on
pub goes_on : (count : ℕ) (o : Opening) (h h' : List Entry) (words words' : List ℕ) (views views' : List View) → RuleStands count o h words views → RuleStands count o h' words' views'
    → Covers views views' → (tail : List Entry) × (h' ≡ h ++ tail)
goes_on count o h h' words words' views views' s s' covers =
    let t = covers s.longest.0 s.longest.1 s.longest.2 in
    let k = s'.each t.0 t.1 t.2 in
    let r : List Entry = k.precedes.0 in (
      t.3.0 ++ r,
      k.precedes.1 ∙ (ap (λ l. l ++ r) (t.3.1 ∙ ap (λ l. l ++ t.3.0) s.longest.3) ∙ append_assoc h t.3.0 r),
    )

-- and where this is so both ways, it stays
same_history : (count : ℕ) (o : Opening) (h h' : List Entry) (words words' : List ℕ) (views views' : List View) → RuleStands count o h words views → RuleStands count o h' words' views'
    → Covers views views' → Covers views' views → h' ≡ h
same_history count o h h' words words' views views' s s' there back =
    let first = goes_on count o h h' words words' views views' s s' there in
    let second = goes_on count o h' h words' words views' views s' s back in
    one_of_two h' h second.0 first.0 second.1 first.1

-- views cover themselves
covers_same : (views : List View) → Covers views views
covers_same views i u at = (i, u, at, ([], sym (append-nil u.seen)))

-- the rule stands at one history alone
pub one_history : IsOneHistory
one_history count o h h' words words' views s s' = same_history count o h' h words' words views views s' s (covers_same views) (covers_same views)

-- an equal history goes on by nothing
pub by_none : (a b : List Entry) → a ≡ b → (rest : List Entry) × (a ≡ b ++ rest)
by_none a b is = ([], is ∙ sym (append-nil b))

-- a view was changed that has seen as much
covers_set : (views : List View) (id : ℕ) (v w : View) → get_elem? views id ≡ plain.some v → w.seen ≡ v.seen → Covers views (set views id w)
covers_set views id v w at same i u at_i = dite (ℕ_discrete i id)
    (λ here.
    let e : u ≡ v = at_once views id u v (ap (get_elem? views) (sym here) ∙ at_i) at in
    (id, w, set_here views id w v at, by_none w.seen u.seen (same ∙ ap (λ (z : View). z.seen) (sym e))))
    (λ other. (i, u, set_else views id i w other ∙ at_i, by_none u.seen u.seen refl))

-- and back
set_covers : (views : List View) (id : ℕ) (v w : View) → get_elem? views id ≡ plain.some v → w.seen ≡ v.seen → Covers (set views id w) views
set_covers views id v w at same i u at_i = elim (at_set views id i w u at_i) [
  | inl t ↦ (id, v, at, by_none v.seen u.seen (sym same ∙ ap (λ (z : View). z.seen) t.1))
  | inr t ↦ (i, u, t.1, by_none u.seen u.seen refl)
]

-- a step after which the seat has seen what it had seen
pub read_leaves : ReadLeaves
read_leaves count o id v w h h' words words' views is same s' =
    same_history count o h h' words words' views (set views id w) is.stands s' (covers_set views id v w is.at same) (set_covers views id v w is.at same)

-- a split
pub split_leaves : SplitLeaves
split_leaves count o id v w u h h' words words' views is same also s' =
    same_history count o h h' words words' views (set views id w ++ u ∷ []) is.stands s' there back
  where
    there : Covers views (set views id w ++ u ∷ [])
    there i x at_i =
        let t = covers_set views id v w is.at same i x at_i in
        (t.0, t.1, at_longer (set views id w) u t.1 t.0 t.2, t.3)

    back : Covers (set views id w ++ u ∷ []) views
    back i x at_i = elim (at_end (set views id w) u x i at_i) [
      | inl old ↦ set_covers views id v w is.at same i x old
      | inr t ↦ (id, v, is.at, by_none v.seen x.seen (sym also ∙ ap (λ (z : View). z.seen) t.1))
    ]

-- a view that goes whole to a new seat
pub move_leaves : MoveLeaves
move_leaves count o id v h h' words words' views is s' =
    same_history count o h h' words words' views (set views id gone ++ v ∷ []) is.stands s' there back
  where
    there : Covers views (set views id gone ++ v ∷ [])
    there i u at_i = dite (ℕ_discrete i id)
        (λ here.
        let e : v ≡ u = at_once views id v u is.at (ap (get_elem? views) (sym here) ∙ at_i) in
        (length (set views id gone), v, at_last (set views id gone) v, by_none v.seen u.seen (ap (λ (z : View). z.seen) e)))
        (λ other. (i, u, at_longer (set views id gone) v u i (set_else views id i gone other ∙ at_i), by_none u.seen u.seen refl))

    back : Covers (set views id gone ++ v ∷ []) views
    back i u at_i = elim (at_end (set views id gone) v u i at_i) [
      | inl old ↦ elim (at_set views id i gone u old) [
        | inl t ↦ (id, v, is.at, (v.seen, ap (λ (z : View). z.seen ++ v.seen) t.1))
        | inr t ↦ (i, u, t.1, by_none u.seen u.seen refl)
      ]
      | inr t ↦ (id, v, is.at, by_none v.seen u.seen (ap (λ (z : View). z.seen) t.1))
    ]

-- a join
pub join_leaves : JoinLeaves
join_leaves count o id v other w h h' words words' views is differ at_other s' =
    same_history count o h h' words words' views (set (set views id (both v w)) other gone) is.stands s' covers back
  where
    there : get_elem? views other ≡ plain.some w
    there = sym (set_else views id other (both v w) differ) ∙ at_other

    joined : get_elem? (set (set views id (both v w)) other gone) id ≡ plain.some (both v w)
    joined = set_else (set views id (both v w)) other id gone (λ e. differ (sym e)) ∙ set_here views id (both v w) v is.at

    met : Meets v.seen (is.stands.each id v is.at).precedes.0 w.seen (is.stands.each other w there).precedes.0 (has v.held) (has w.held)
    met = meets v.seen (is.stands.each id v is.at).precedes.0 w.seen (is.stands.each other w there).precedes.0 (has v.held) (has w.held)
        (sym (is.stands.each id v is.at).precedes.1 ∙ (is.stands.each other w there).precedes.1)
        (is.stands.each id v is.at).precedes.2 (is.stands.each other w there).precedes.2

    covers : Covers views (set (set views id (both v w)) other gone)
    covers i u at_i = dite (ℕ_discrete i id)
        (λ here.
        let e : v ≡ u = at_once views id v u is.at (ap (get_elem? views) (sym here) ∙ at_i) in
        (id, both v w, joined, (met.joins.more, met.joins.grown ∙ ap (λ (z : View). z.seen ++ met.joins.more) e)))
        (λ not_id. dite (ℕ_discrete i other)
        (λ here.
        let e : w ≡ u = at_once views other w u there (ap (get_elem? views) (sym here) ∙ at_i) in
        (id, both v w, joined, (met.joins.other_more, met.joins.other_grown ∙ ap (λ (z : View). z.seen ++ met.joins.other_more) e)))
        (λ not_other. (i, u, set_else (set views id (both v w)) other i gone not_other ∙ (set_else views id i (both v w) not_id ∙ at_i), by_none u.seen u.seen refl)))

    longer : (u : View) → both v w ≡ u → (j : ℕ) × (x : View) × (get_elem? views j ≡ plain.some x) × ((rest : List Entry) × (x.seen ≡ u.seen ++ rest))
    longer u e = elim met.joins.one_empty [
      | inl none ↦ (id, v, is.at, by_none v.seen u.seen (sym (met.joins.grown ∙ (ap (λ l. v.seen ++ l) none ∙ append-nil v.seen)) ∙ ap (λ (z : View). z.seen) e))
      | inr none ↦ (other, w, there, by_none w.seen u.seen (sym (met.joins.other_grown ∙ (ap (λ l. w.seen ++ l) none ∙ append-nil w.seen)) ∙ ap (λ (z : View). z.seen) e))
    ]

    back : Covers (set (set views id (both v w)) other gone) views
    back i u at_i = elim (at_set (set views id (both v w)) other i gone u at_i) [
      | inl t ↦ (id, v, is.at, (v.seen, ap (λ (z : View). z.seen ++ v.seen) t.1))
      | inr t ↦ elim (at_set views id i (both v w) u t.1) [
        | inl x ↦ longer u x.1
        | inr x ↦ (i, u, x.1, by_none u.seen u.seen refl)
      ]
    ]
