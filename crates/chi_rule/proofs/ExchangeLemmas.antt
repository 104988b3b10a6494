-- exchanges keep the rule: of one word, and of all words
use Rattle.std.proofs.Common.{◌≡◌, ℕ, ◌==◌, nat_eq, Bool, true, false, if◌then◌else◌, cond, MatchBool, List, [], ◌∷◌, ◌++◌, set, slice_index, refl, sym, ap, subst, ◌∙◌, true≢false, eqb-true}
use Rattle.std.proofs.lemmas.List.{set-get_or}
use lib.Pointwise.{pointwise, bytes_decides}
use prog.Atomic.{either}
use Rattle.chi_fields.specs.Extent.{granule_of, lies_in}
use Rattle.chi_fields.specs.Access.{IsLawful, Access}
use Rattle.chi_history.specs.declared.entry.Entry.{Entry}
use Rattle.chi_history.specs.declared.opening.Opening.{Opening}
use Rattle.chi_history.specs.NumberLists.{has}
use Rattle.chi_rule.specs.declared.view.View.{View}
use Rattle.chi_rule.specs.Rule.{Kept, RuleStands, shown}
use Rattle.chi_rule.specs.StepFacts.{Adds, Applies, Exchanges, Sees, Tries}
use Rattle.chi_rule.specs.Views.{knower}
use Rattle.chi_rule.proofs.StepLemmas.{appends, granule_below, next_of, sees}
use Rattle.chi_rule.proofs.Steps.{Steps}
use Rattle.chi_rule.proofs.ViewLists.{set_again}

-- exchanges for an access of a number that a knower holds
module _ (count : ℕ) (o : Opening) (id : ℕ) (held : List ℕ) (seen : List Entry) (next src : ℕ) (access : Access) (holds : has held src ≡ true)
    (lawful : IsLawful access) (fits : lies_in access.addr access.len o.region ≡ true) where
  abbrev v : View
  v = knower o held seen

  abbrev g : ℕ
  g = granule_of access.addr o.region

  -- an exchange of the access's word, at a knower
  exchanges_at : (first : ℕ) → Applies o access first next
      → Steps count o id v (λ ws. set ws g (either (slice_index ws g == first) next (slice_index ws g))) (λ ws. Exchanges v first src access (slice_index ws g))
  exchanges_at first applies words views kept at = by_test (found == first) refl
    where
      h : List Entry
      h = kept.0

      s : RuleStands count o h words views
      s = kept.1

      found : ℕ
      found = slice_index words g

      shows : found ≡ shown o h g
      shows = s.written g (granule_below o access lawful fits)

      by_test : (b : Bool) → (found == first) ≡ b
          → (w : View) × Kept count o (set words g (either (found == first) next found)) (set views id w) × Exchanges v first src access found w
      by_test true is =
          let here : Applies o access found next = subst (λ n. Applies o access n next) (sym (eqb-true found first is)) applies in
          let t = appends count o h words views id held seen s at src access next holds lawful fits here in (
            knower o held (h ++ next_of o h src access ∷ []),
            (
              h ++ next_of o h src access ∷ [],
              subst (λ b. RuleStands count o (h ++ next_of o h src access ∷ []) (set words g (either b next found)) (set views id (knower o held (h ++ next_of o h src access ∷ [])))) (sym is) t.0,
            ),
            record {
              mid = t.1.0;
              found_is = shows ∙ ap (λ l. shown o l g) t.1.1;
              done = subst (λ b. MatchBool b (Adds v t.1.0 src access (knower o held (h ++ next_of o h src access ∷ []))) (Sees v t.1.0 (knower o held (h ++ next_of o h src access ∷ [])))) (sym is) t.1.2;
            },
          )
      by_test false is =
          let t = sees count o h words views id held seen s at in
          let still : set words g (either (found == first) next found) ≡ words = ap (λ b. set words g (either b next found)) is ∙ set-get_or words g 0 in (
            knower o held h,
            (h, subst (λ ws. RuleStands count o h ws (set views id (knower o held h))) (sym still) t.0),
            record {
              mid = t.1.0;
              found_is = shows ∙ ap (λ l. shown o l g) t.1.1;
              done = subst (λ b. MatchBool b (Adds v t.1.0 src access (knower o held h)) (Sees v t.1.0 (knower o held h))) (sym is) t.1.2;
            },
          )

  -- an exchange of all words, at a knower
  tries_at : (current new : List ℕ) → Applies o access (slice_index current g) next → new ≡ set current g next
      → Steps count o id v (λ ws. if pointwise nat_eq ws current then new else ws) (Tries v current src access)
  tries_at current new applies made words views kept at = by_test (pointwise nat_eq words current) refl
    where
      h : List Entry
      h = kept.0

      s : RuleStands count o h words views
      s = kept.1

      by_test : (b : Bool) → pointwise nat_eq words current ≡ b
          → (w : View) × Kept count o (cond (pointwise nat_eq words current) new words) (set views id w) × Tries v current src access words w
      by_test true is =
          let same : words ≡ current = (bytes_decides words current).0 is in
          let here : Applies o access (slice_index words g) next = subst (λ ws. Applies o access (slice_index ws g) next) (sym same) applies in
          let t = appends count o h words views id held seen s at src access next holds lawful fits here in
          let written : set words g next ≡ cond (pointwise nat_eq words current) new words = ap (λ ws. set ws g next) same ∙ (sym made ∙ ap (λ b. cond b new words) (sym is)) in (
            knower o held (h ++ next_of o h src access ∷ []),
            (
              h ++ next_of o h src access ∷ [],
              subst (λ ws. RuleStands count o (h ++ next_of o h src access ∷ []) ws (set views id (knower o held (h ++ next_of o h src access ∷ [])))) written t.0,
            ),
            (
              λ _. record { mid = t.1.0; words_are = λ i under. s.written i under ∙ ap (λ l. shown o l i) t.1.1; adds = t.1.2 },
              λ differ. absurd (differ same),
            ),
          )
      by_test false is = (
        v,
        (
          h,
          subst (λ (z : List ℕ × List View). RuleStands count o h z.0 z.1) (λ i. (ap (λ b. cond b new words) (sym is) i, sym (set_again views id v at) i)) s,
        ),
        ((λ same. absurd (true≢false (sym ((bytes_decides words current).1 same) ∙ is))), λ _. refl),
      )

-- an exchange of the access's word
pub exchanges : (count : ℕ) (o : Opening) (id : ℕ) (v : View) → v ≡ knower o v.held v.seen → (g first next src : ℕ) (access : Access)
    → g ≡ granule_of access.addr o.region → has v.held src ≡ true → IsLawful access → lies_in access.addr access.len o.region ≡ true → Applies o access first next
    → Steps count o id v (λ ws. set ws g (either (slice_index ws g == first) next (slice_index ws g))) (λ ws. Exchanges v first src access (slice_index ws g))
exchanges count o id v is g first next src access place holds lawful fits applies =
    subst (λ (z : ℕ × View). Steps count o id z.1 (λ ws. set ws z.0 (either (slice_index ws z.0 == first) next (slice_index ws z.0))) (λ ws. Exchanges z.1 first src access (slice_index ws z.0)))
    (λ i. (sym place i, sym is i)) (exchanges_at count o id v.held v.seen next src access holds lawful fits first applies)

-- an exchange of all words
pub tries : (count : ℕ) (o : Opening) (id : ℕ) (v : View) → v ≡ knower o v.held v.seen → (current new : List ℕ) (g next src : ℕ) (access : Access)
    → g ≡ granule_of access.addr o.region → has v.held src ≡ true → IsLawful access → lies_in access.addr access.len o.region ≡ true
    → Applies o access (slice_index current g) next → new ≡ set current g next
    → Steps count o id v (λ ws. if pointwise nat_eq ws current then new else ws) (Tries v current src access)
tries count o id v is current new g next src access place holds lawful fits applies made =
    subst (λ (z : View). Steps count o id z (λ ws. if pointwise nat_eq ws current then new else ws) (Tries z current src access)) (sym is)
    (tries_at count o id v.held v.seen next src access holds lawful fits current new (subst (λ i. Applies o access (slice_index current i) next) place applies) (made ∙ ap (λ i. set current i next) place))
