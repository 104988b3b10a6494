-- the same steps where the store's first view is a constant
use Rattle.std.proofs.Common.{◌≡◌, ℕ, ◌≤◌, true, List, [], ◌∷◌, ◌++◌, replicate, set, refl, sym, ap, subst, ◌∙◌, inl, inr, true≢false}
use mathlib.Core.Option as plain
use lib.ListN.{get_elem?}
use Rattle.chi_fields.specs.Extent.{IsRegion}
use Rattle.chi_history.specs.declared.opening.Opening.{Opening}
use Rattle.chi_history.specs.NumberLists.{has}
use Rattle.chi_rule.specs.declared.view.View.{View}
use Rattle.chi_rule.specs.Rule.{Kept, Ruled, RuleStands}
use Rattle.chi_rule.specs.Views.{all_below, gone, knower, newcomer}
use Rattle.chi_rule.proofs.ViewLemmas.{apart_sym}
use Rattle.chi_rule.proofs.RuleLemmas.{arrives}
use Rattle.chi_rule.proofs.SplitLemmas.{gone_apart, knows_gone, one_at, opens}
use Rattle.chi_rule.proofs.Steps.{Parts, Steps, Unites}

-- a seat that carries an opening is of that opening
pub ruled_kept : (count : ℕ) (o : Opening) (id : ℕ) (v : View) (words : List ℕ) (views : List View) → v.live ≡ true → v.opening ≡ o
    → Ruled count words views → get_elem? views id ≡ plain.some v → Kept count o words views
ruled_kept count o id v words views live same (inl first) at =
    let is : newcomer ≡ v = (one_at newcomer v id (subst (λ l. get_elem? l id ≡ plain.some v) first.0 at)).1 in
    absurd (true≢false (sym live ∙ ap (λ (z : View). z.live) (sym is)))
ruled_kept count o id v words views live same (inr k) at =
    subst (λ (z : Opening). Kept count z words views) (sym ((k.1.1.each id v at).opened live) ∙ same) k.1

-- a step
pub ruled_steps : (count : ℕ) (o : Opening) (id : ℕ) (v : View) (f : List ℕ → List ℕ) (then : List ℕ → View → Type 0) → v.live ≡ true → v.opening ≡ o
    → Steps count o id v f then → (words : List ℕ) (views : List View) → Ruled count words views → get_elem? views id ≡ plain.some v
    → (w : View) × Ruled count (f words) (set views id w) × then words w
ruled_steps count o id v f then live same step words views ruled at =
    let t = step words views (ruled_kept count o id v words views live same ruled at) at in
    (t.0, inr (o, t.1), t.2)

-- a cut
pub ruled_parts : (count : ℕ) (o : Opening) (id : ℕ) (v left right : View) → v.live ≡ true → v.opening ≡ o → Parts count o id v left right
    → (words : List ℕ) (views : List View) → Ruled count words views → get_elem? views id ≡ plain.some v → Ruled count words (set views id left ++ right ∷ [])
ruled_parts count o id v left right live same parts words views ruled at =
    inr (o, parts words views (ruled_kept count o id v words views live same ruled at) at)

-- a merge
pub ruled_unites : (count : ℕ) (o : Opening) (id : ℕ) (v : View) (other : ℕ) (w both spent : View) → v.live ≡ true → v.opening ≡ o → Unites count o id v other w both spent
    → (words : List ℕ) (views : List View) → Ruled count words views → get_elem? views id ≡ plain.some v → ¬ (other ≡ id) → get_elem? (set views id both) other ≡ plain.some w
    → Ruled count words (set (set views id both) other spent)
ruled_unites count o id v other w both spent live same unites words views ruled at differ there =
    inr (o, unites words views (ruled_kept count o id v words views live same ruled at) at differ there)

-- the rule of a store that was just made
pub ruled_first : (count : ℕ) → Ruled count (replicate count 0) (newcomer ∷ [])
ruled_first count = inl (refl, refl)

-- the opening is set by a cut of the first view
pub ruled_opens : (count : ℕ) (o : Opening) (id : ℕ) → IsRegion o.region → o.region.granules ≤ count → (words : List ℕ) (views : List View)
    → Ruled count words views → get_elem? views id ≡ plain.some newcomer → Ruled count words (set views id (knower o (all_below o.requesters) []) ++ gone ∷ [])
ruled_opens count o id is room words views (inl first) at =
    let here : id ≡ 0 = (one_at newcomer newcomer id (subst (λ l. get_elem? l id ≡ plain.some newcomer) first.0 at)).0 in
    let v : View = knower o (all_below o.requesters) [] in
    let whole : RuleStands count o [] (replicate count 0) (v ∷ gone ∷ []) =
    arrives count o [] (replicate count 0) (v ∷ []) (opens count o is room) gone (knows_gone o [])
    (λ i u at_i. apart_sym (has u.held) (has gone.held) (gone_apart (has u.held))) in
    inr (o, ([], subst (λ (z : List ℕ × List View). RuleStands count o [] z.0 z.1) (λ i. (sym first.1 i, set (sym first.0 i) (sym here i) v ++ gone ∷ [])) whole))
ruled_opens count o id is room words views (inr k) at = absurd (true≢false ((k.1.1.each id newcomer at).settled))
