-- what the history is after a step by which a seat has seen more
use Rattle.std.proofs.Common.{◌≡◌, ◌≢◌, ℕ, ◌==◌, Bool, true, false, MatchBool, List, [], ◌∷◌, ◌++◌, set, refl, sym, ap, subst, ◌∙◌, inl, inr, true≢false, append_assoc, append-nil}
use mathlib.Core.Logic.{dite}
use mathlib.Core.Option as plain
use native.Mathlib.Decide.{ℕ_discrete}
use lib.ListN.{get_elem?}
use Rattle.chi_fields.specs.Access.{Access}
use Rattle.chi_lanes.specs.After.{answer}
use Rattle.chi_lanes.specs.Memory.{Memory}
use Rattle.chi_history.specs.declared.entry.Entry.{Entry}
use Rattle.chi_history.specs.declared.opening.Opening.{Opening}
use Rattle.chi_history.specs.NumberSets.{Held}
use Rattle.chi_history.specs.History.{IsFreeOf, IsLegalFrom, end, opening_memory}
use Rattle.chi_history.specs.HomeClauses.{entry}
use Rattle.chi_history.specs.NumberLists.{has}
use Rattle.chi_history.proofs.HistoryLemmas.{free-append, free-front, legal-back, legal-front, longer}
use Rattle.chi_rule.specs.declared.view.View.{View}
use Rattle.chi_rule.specs.Events.{ExchangeAdds, IsAt, LookLeaves, ReplaceAdds, with_entry}
use Rattle.chi_rule.specs.Rule.{AreHeld, Knows, RuleStands}
use Rattle.chi_rule.specs.StepFacts.{Adds, Exchanges, Sees}
use Rattle.chi_rule.specs.Views.{knower}
use Rattle.chi_rule.proofs.Histories.{free-back}
use Rattle.chi_rule.proofs.LeaveLemmas.{Covers, by_none, goes_on, read_leaves}
use Rattle.chi_rule.proofs.ViewLists.{at_once, set_else, set_here}

-- a front that two lists have in common
cancel : (front xs ys : List Entry) → front ++ xs ≡ front ++ ys → xs ≡ ys
cancel [] xs ys same = same
cancel (e ∷ es) xs ys same = cancel es xs ys (cc)

-- the views after one of them has seen more
covers_more : (views : List View) (id : ℕ) (v w : View) (more : List Entry) → get_elem? views id ≡ plain.some v → w.seen ≡ v.seen ++ more
    → Covers views (set views id w)
covers_more views id v w more at is i u at_i = dite (ℕ_discrete i id)
    (λ here. let e : u ≡ v = at_once views id u v (ap (get_elem? views) (sym here) ∙ at_i) at in
    (id, w, set_here views id w v at, (more, is ∙ ap (λ (z : View). z.seen ++ more) (sym e))))
    (λ other. (i, u, set_else views id i w other ∙ at_i, by_none u.seen u.seen refl))

-- entries within a legal history of which no number is held: there are none
none_of : (o : Opening) (m : Memory) (views : List View) → AreHeld o.requesters views → (xs : List Entry) → IsLegalFrom o m xs
    → ((i : ℕ) (u : View) → get_elem? views i ≡ plain.some u → IsFreeOf (has u.held) xs) → xs ≡ []
unfolding IsFreeOf IsLegalFrom
none_of o m views covered [] legal free = refl
none_of o m views covered (x ∷ xs) legal free =
    let t = covered x.src legal.0.requester in
    absurd (true≢false (sym t.3 ∙ (free t.0 t.1 t.2).0))

-- the rule stands before and after a step by which the seat of v has seen more, and holds what it held
record Grows (count : ℕ) (o : Opening) (h : List Entry) (words : List ℕ) (views : List View) (id : ℕ) (held : List ℕ) (seen more : List Entry) (h' : List Entry) (words' : List ℕ) (w : View) : Type 0 where
  place : IsAt count o h words views id (knower o held seen)
  now : w ≡ knower o held (seen ++ more)
  stands : RuleStands count o h' words' (set views id w)

-- then the history goes on by a tail: behind what the seat had seen stood entries of others, and behind what it
-- has seen stand entries of others
record Grown (o : Opening) (h : List Entry) (views : List View) (id : ℕ) (held : List ℕ) (seen more : List Entry) (h' : List Entry) : Type 0 where
  tail : List Entry
  whole : h' ≡ h ++ tail
  legal : IsLegalFrom o (end o h) tail
  behind : List Entry
  was : h ≡ seen ++ behind
  behind_free : IsFreeOf (has held) behind
  rest : List Entry
  rest_free : IsFreeOf (has held) rest
  met : behind ++ tail ≡ more ++ rest
  at : get_elem? views id ≡ plain.some (knower o held seen)
  covered : AreHeld o.requesters views
  others : (j : ℕ) (u : View) → j ≢ id → get_elem? views j ≡ plain.some u → IsFreeOf (has u.held) tail

grown : (count : ℕ) (o : Opening) (h : List Entry) (words : List ℕ) (views : List View) (id : ℕ) (held : List ℕ) (seen more : List Entry) (h' : List Entry) (words' : List ℕ) (w : View)
    → Grows count o h words views id held seen more h' words' w → Grown o h views id held seen more h'
grown count o h words views id held seen more h' words' w g = record {
  tail = tail;
  whole = t.1;
  legal = legal-back o (opening_memory o) h tail (subst (IsLegalFrom o (opening_memory o)) t.1 g.stands.legal);
  behind = k.precedes.0;
  was = k.precedes.1;
  behind_free = k.precedes.2;
  rest = k'.precedes.0;
  rest_free = subst (λ (z : View). IsFreeOf (has z.held) k'.precedes.0) g.now k'.precedes.2;
  met = cancel seen (k.precedes.0 ++ tail) (more ++ k'.precedes.0) (sym (append_assoc seen k.precedes.0 tail) ∙ (ap (λ l. l ++ tail) (sym k.precedes.1) ∙ (sym t.1 ∙ (k'.precedes.1 ∙ (ap (λ (z : View). z.seen ++ k'.precedes.0) g.now ∙ append_assoc seen more k'.precedes.0)))));
  at = g.place.at;
  covered = g.place.stands.covered;
  others = λ j u other at_j.
      let l = g.place.stands.each j u at_j in
      let l' = g.stands.each j u (set_else views id j w other ∙ at_j) in
      let more_of : l.precedes.0 ++ tail ≡ l'.precedes.0 =
      cancel u.seen (l.precedes.0 ++ tail) l'.precedes.0 (sym (append_assoc u.seen l.precedes.0 tail) ∙ (ap (λ l. l ++ tail) (sym l.precedes.1) ∙ (sym t.1 ∙ l'.precedes.1))) in
      free-back (has u.held) l.precedes.0 tail (subst (IsFreeOf (has u.held)) (sym more_of) l'.precedes.2);
}
  where
    v : View
    v = knower o held seen

    t : (tail : List Entry) × (h' ≡ h ++ tail)
    t = goes_on count o h h' words words' views (set views id w) g.place.stands g.stands (covers_more views id v w more g.place.at (ap (λ (z : View). z.seen) g.now))

    tail : List Entry
    tail = t.0

    k : Knows o h v
    k = g.place.stands.each id v g.place.at

    k' : Knows o h' w
    k' = g.stands.each id w (set_here views id w v g.place.at)

-- a stretch of the tail that contains no entry of what the seat holds is empty
none_more : (o : Opening) (h : List Entry) (views : List View) (id : ℕ) (held : List ℕ) (seen more : List Entry) (h' : List Entry)
    → (g : Grown o h views id held seen more h') → (m : Memory) (xs : List Entry) → IsLegalFrom o m xs → IsFreeOf (has held) xs
    → ((other : Held) → IsFreeOf other g.tail → IsFreeOf other xs) → xs ≡ []
none_more o h views id held seen more h' g m xs legal free part = none_of o m views g.covered xs legal (λ i u at_i. dite (ℕ_discrete i id)
    (λ here. let e : knower o held seen ≡ u = at_once views id (knower o held seen) u g.at (ap (get_elem? views) (sym here) ∙ at_i) in
    subst (λ (z : View). IsFreeOf (has z.held) xs) e free)
    (λ other. part (has u.held) (g.others i u other at_i)))

-- where the seat has seen only entries of others more, the history stays
stays : (o : Opening) (h : List Entry) (views : List View) (id : ℕ) (held : List ℕ) (seen more : List Entry) (h' : List Entry)
    → Grown o h views id held seen more h' → IsFreeOf (has held) more → h' ≡ h
stays o h views id held seen more h' g free =
    let all : IsFreeOf (has held) (g.behind ++ g.tail) = subst (IsFreeOf (has held)) (sym g.met) (free-append (has held) more g.rest free g.rest_free) in
    let none : g.tail ≡ [] = none_more o h views id held seen more h' g (end o h) g.tail g.legal (free-back (has held) g.behind g.tail all) (λ other free. free) in
    g.whole ∙ (ap (λ l. h ++ l) none ∙ append-nil h)

-- where it has seen entries of others and one of its own more, all that stood behind was seen, and the tail
-- begins with its own
begins : (o : Opening) (h : List Entry) (views : List View) (id : ℕ) (held : List ℕ) (seen mid : List Entry) (e : Entry) (h' : List Entry)
    → (g : Grown o h views id held seen (mid ++ e ∷ []) h') → IsFreeOf (has held) mid → has held e.src ≡ true → (g.behind ≡ mid) × (g.tail ≡ e ∷ g.rest)
unfolding IsFreeOf
begins o h views id held seen mid e h' g free mine = elim (longer g.behind g.tail mid (e ∷ g.rest) (g.met ∙ append_assoc mid (e ∷ []) g.rest)) [
  | inl t ↦
      let front : IsLegalFrom o (end o h) t.0 = legal-front o (end o h) t.0 (e ∷ g.rest) (subst (IsLegalFrom o (end o h)) (sym t.2) g.legal) in
      let none : t.0 ≡ [] = none_more o h views id held seen (mid ++ e ∷ []) h' g (end o h) t.0 front (free-back (has held) g.behind t.0 (subst (IsFreeOf (has held)) (sym t.1) free))
      (λ other others. free-front other t.0 (e ∷ g.rest) (subst (IsFreeOf other) (sym t.2) others)) in
      (sym (append-nil g.behind) ∙ (ap (λ l. g.behind ++ l) (sym none) ∙ t.1), sym t.2 ∙ ap (λ l. l ++ e ∷ g.rest) none)
  | inr t ↦ by_cases t.0 t.1 t.2
]
  where
    by_cases : (t : List Entry) → mid ++ t ≡ g.behind → t ++ g.tail ≡ e ∷ g.rest → (g.behind ≡ mid) × (g.tail ≡ e ∷ g.rest)
    by_cases [] is same = (sym is ∙ append-nil mid, same)
    by_cases (x ∷ xs) is same =
        let first : x ≡ e = cc in
        let other = free-back (has held) mid (x ∷ xs) (subst (IsFreeOf (has held)) (sym is) g.behind_free) in
        absurd (true≢false (sym mine ∙ (ap (λ (z : Entry). has held z.src) (sym first) ∙ other.0)))

-- and the tail has no other entry
adds_one : (o : Opening) (h : List Entry) (views : List View) (id : ℕ) (held : List ℕ) (seen mid : List Entry) (e : Entry) (h' : List Entry)
    → Grown o h views id held seen (mid ++ e ∷ []) h' → IsFreeOf (has held) mid → has held e.src ≡ true → (h ≡ seen ++ mid) × (h' ≡ h ++ e ∷ [])
adds_one o h views id held seen mid e h' g free mine =
    let t = begins o h views id held seen mid e h' g free mine in
    let back : IsLegalFrom o _ g.rest = legal-back o (end o h) (e ∷ []) g.rest (subst (IsLegalFrom o (end o h)) t.1 g.legal) in
    let none : g.rest ≡ [] = none_more o h views id held seen (mid ++ e ∷ []) h' g _ g.rest back g.rest_free
    (λ other others. free-back other (e ∷ []) g.rest (subst (IsFreeOf other) t.1 others)) in
    (g.was ∙ ap (λ l. seen ++ l) t.0, g.whole ∙ (ap (λ l. h ++ l) t.1 ∙ ap (λ l. h ++ e ∷ l) none))

-- a seat that has seen more leaves the history
sees_stays : (count : ℕ) (o : Opening) (id : ℕ) (held : List ℕ) (seen mid : List Entry) (h h' : List Entry) (words words' : List ℕ) (views : List View)
    → IsAt count o h words views id (knower o held seen) → (w : View) → Sees (knower o held seen) mid w → RuleStands count o h' words' (set views id w) → h' ≡ h
sees_stays count o id held seen mid h h' words words' views place w sees stands =
    stays o h views id held seen mid h' (grown count o h words views id held seen mid h' words' w (record { place = place; now = sees.now; stands = stands })) sees.free

-- a seat that adds an entry adds it alone
adds_alone : (count : ℕ) (o : Opening) (id : ℕ) (held : List ℕ) (seen mid : List Entry) (src : ℕ) (access : Access)
    → (h h' : List Entry) (words words' : List ℕ) (views : List View) → IsAt count o h words views id (knower o held seen)
    → (w : View) → Adds (knower o held seen) mid src access w → RuleStands count o h' words' (set views id w)
    → (has held src ≡ true) × (h' ≡ with_entry o h src access) × (w.seen ≡ h')
adds_alone count o id held seen mid src access h h' words words' views place w adds stands =
    let e : Entry = entry src access (answer access (end o (seen ++ mid))) in
    let more : List Entry = mid ++ e ∷ [] in
    let now : w ≡ knower o held (seen ++ more) = adds.now ∙ ap (knower o held) (append_assoc seen mid (e ∷ [])) in
    let t = adds_one o h views id held seen mid e h' (grown count o h words views id held seen more h' words' w (record { place = place; now = now; stands = stands })) adds.free adds.mine in
    (adds.mine, t.1 ∙ ap (λ l. h ++ entry src access (answer access (end o l)) ∷ []) (sym t.0), ap (λ (z : View). z.seen) adds.now ∙ (ap (λ l. l ++ e ∷ []) (sym t.0) ∙ sym t.1))

-- an exchange of one word
pub exchange_adds : ExchangeAdds
exchange_adds count o id v is first found src access h h' words words' views place w exchange stands =
    at_knower (subst (λ (z : View). IsAt count o h words views id z) is place) (subst (λ (z : View). Exchanges z first src access found w) is exchange)
  where
    at_knower : IsAt count o h words views id (knower o v.held v.seen) → Exchanges (knower o v.held v.seen) first src access found w
        → MatchBool (found == first) ((has v.held src ≡ true) × (h' ≡ with_entry o h src access) × (w.seen ≡ h')) (h' ≡ h)
    at_knower here x = by_test (found == first) x.done
      where
        by_test : (b : Bool) → MatchBool b (Adds (knower o v.held v.seen) x.mid src access w) (Sees (knower o v.held v.seen) x.mid w)
            → MatchBool b ((has v.held src ≡ true) × (h' ≡ with_entry o h src access) × (w.seen ≡ h')) (h' ≡ h)
        by_test true adds = adds_alone count o id v.held v.seen x.mid src access h h' words words' views here w adds stands
        by_test false sees = sees_stays count o id v.held v.seen x.mid h h' words words' views here w sees stands

-- an exchange of all words
pub replace_adds : ReplaceAdds
replace_adds count o id v is current found src access h h' words words' views place w tries stands = (
  λ same. let x = tries.0 same in
      adds_alone count o id v.held v.seen x.mid src access h h' words words' views (subst (λ (z : View). IsAt count o h words views id z) is place) w
      (subst (λ (z : View). Adds z x.mid src access w) is x.adds) stands,
  λ differ. read_leaves count o id v w h h' words words' views place (ap (λ (z : View). z.seen) (tries.1 differ)) stands,
)

-- the load of a try
pub look_leaves : LookLeaves
look_leaves count o id v is g found h h' words words' views place w looks stands =
    sees_stays count o id v.held v.seen looks.mid h h' words words' views (subst (λ (z : View). IsAt count o h words views id z) is place) w
    (subst (λ (z : View). Sees z looks.mid w) is looks.sees) stands
