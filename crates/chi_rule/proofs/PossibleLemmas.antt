-- which steps are possible
use Rattle.std.proofs.Common.{◌≡◌, ℕ, ◌<◌, ◌==◌, Bool, true, false, MatchBool, List, set, slice_index, refl, sym, ap, subst, ◌∙◌, eqb-true}
use Rattle.chi_fields.specs.Extent.{granule_of, lies_in}
use Rattle.chi_fields.specs.Access.{IsLawful, Access}
use Rattle.chi_history.specs.declared.entry.Entry.{Entry}
use Rattle.chi_history.specs.declared.opening.Opening.{Opening}
use Rattle.chi_history.specs.NumberLists.{has}
use Rattle.chi_rule.specs.declared.view.View.{View}
use Rattle.chi_rule.specs.Events.{ExchangeIsPossible, IsAt, LookIsPossible, ReplaceIsPossible, with_entry}
use Rattle.chi_rule.specs.Rule.{RuleStands, shown}
use Rattle.chi_rule.specs.StepFacts.{Adds, Applies, Exchanges, Looks, Sees, Tries}
use Rattle.chi_rule.specs.Views.{knower}
use Rattle.chi_rule.proofs.StepLemmas.{appends, granule_below, sees}

-- the load of a try, by a seat of the opening
look_at : (count : ℕ) (o : Opening) (id : ℕ) (held : List ℕ) (seen : List Entry) (g : ℕ) → g < o.region.granules
    → (h : List Entry) (words : List ℕ) (views : List View) → IsAt count o h words views id (knower o held seen)
    → (w : View) × Looks (knower o held seen) g (slice_index words g) w × RuleStands count o h words (set views id w) × (w.seen ≡ h)
look_at count o id held seen g under h words views place =
    let t = sees count o h words views id held seen place.stands place.at in (
      knower o held h,
      record { mid = t.1.0; sees = t.1.2; found_is = place.stands.written g under ∙ ap (λ l. shown o l g) t.1.1 },
      t.0,
      refl,
    )

-- the load of a try
pub look_possible : LookIsPossible
look_possible count o id v is g under h words views place =
    subst (λ (z : View). (w : View) × Looks z g (slice_index words g) w × RuleStands count o h words (set views id w) × (w.seen ≡ h)) (sym is)
    (look_at count o id v.held v.seen g under h words views (subst (λ (z : View). IsAt count o h words views id z) is place))

-- what an exchange is to do
abbrev Does : ℕ → Opening → ℕ → View → ℕ → ℕ → ℕ → Access → List Entry → List ℕ → List View → Type 0
Does count o id v first next src access h words views =
    (w : View) × Exchanges v first src access (slice_index words (granule_of access.addr o.region)) w
    × MatchBool (slice_index words (granule_of access.addr o.region) == first)
    (RuleStands count o (with_entry o h src access) (set words (granule_of access.addr o.region) next) (set views id w) × (w.seen ≡ with_entry o h src access))
    (RuleStands count o h words (set views id w) × (w.seen ≡ h))

-- the exchange, by a seat of the opening
exchange_at : (count : ℕ) (o : Opening) (id : ℕ) (held : List ℕ) (seen : List Entry) (first next src : ℕ) (access : Access) → has held src ≡ true → IsLawful access
    → lies_in access.addr access.len o.region ≡ true → Applies o access first next → (h : List Entry) (words : List ℕ) (views : List View)
    → IsAt count o h words views id (knower o held seen) → Does count o id (knower o held seen) first next src access h words views
exchange_at count o id held seen first next src access holds lawful fits applies h words views place = by_test (found == first) refl
  where
    v : View
    v = knower o held seen

    g : ℕ
    g = granule_of access.addr o.region

    found : ℕ
    found = slice_index words g

    longer : List Entry
    longer = with_entry o h src access

    shows : found ≡ shown o h g
    shows = place.stands.written g (granule_below o access lawful fits)

    by_test : (b : Bool) → (found == first) ≡ b → Does count o id v first next src access h words views
    by_test true is =
        let here : Applies o access found next = subst (λ n. Applies o access n next) (sym (eqb-true found first is)) applies in
        let t = appends count o h words views id held seen place.stands place.at src access next holds lawful fits here in
        let w : View = knower o held longer in (
          w,
          record {
            mid = t.1.0;
            found_is = shows ∙ ap (λ l. shown o l g) t.1.1;
            done = subst (λ b. MatchBool b (Adds v t.1.0 src access w) (Sees v t.1.0 w)) (sym is) t.1.2;
          },
          subst (λ b. MatchBool b (RuleStands count o longer (set words g next) (set views id w) × (w.seen ≡ longer)) (RuleStands count o h words (set views id w) × (w.seen ≡ h))) (sym is) (t.0, refl),
        )
    by_test false is =
        let t = sees count o h words views id held seen place.stands place.at in
        let w : View = knower o held h in (
          w,
          record {
            mid = t.1.0;
            found_is = shows ∙ ap (λ l. shown o l g) t.1.1;
            done = subst (λ b. MatchBool b (Adds v t.1.0 src access w) (Sees v t.1.0 w)) (sym is) t.1.2;
          },
          subst (λ b. MatchBool b (RuleStands count o longer (set words g next) (set views id w) × (w.seen ≡ longer)) (RuleStands count o h words (set views id w) × (w.seen ≡ h))) (sym is) (t.0, refl),
        )

-- the exchange
pub exchange_possible : ExchangeIsPossible
exchange_possible count o id v is first next src access holds lawful fits applies h words views place =
    subst (λ (z : View). Does count o id z first next src access h words views) (sym is)
    (exchange_at count o id v.held v.seen first next src access holds lawful fits applies h words views (subst (λ (z : View). IsAt count o h words views id z) is place))

-- the exchange of all words, by a seat of the opening
replace_at : (count : ℕ) (o : Opening) (id : ℕ) (held : List ℕ) (seen : List Entry) (next src : ℕ) (access : Access) → has held src ≡ true → IsLawful access
    → lies_in access.addr access.len o.region ≡ true → (h : List Entry) (words : List ℕ) (views : List View) → IsAt count o h words views id (knower o held seen)
    → Applies o access (slice_index words (granule_of access.addr o.region)) next
    → (w : View) × Tries (knower o held seen) words src access words w
    × RuleStands count o (with_entry o h src access) (set words (granule_of access.addr o.region) next) (set views id w) × (w.seen ≡ with_entry o h src access)
replace_at count o id held seen next src access holds lawful fits h words views place applies =
    let t = appends count o h words views id held seen place.stands place.at src access next holds lawful fits applies in (
      knower o held (with_entry o h src access),
      (
        λ _. record { mid = t.1.0; words_are = λ g under. place.stands.written g under ∙ ap (λ l. shown o l g) t.1.1; adds = t.1.2 },
        λ differ. absurd (differ refl),
      ),
      t.0,
      refl,
    )

-- the exchange of all words
pub replace_possible : ReplaceIsPossible
replace_possible count o id v is next src access holds lawful fits h words views place applies =
    subst (λ (z : View). (w : View) × Tries z words src access words w × RuleStands count o (with_entry o h src access) (set words (granule_of access.addr o.region) next) (set views id w) × (w.seen ≡ with_entry o h src access)) (sym is)
    (replace_at count o id v.held v.seen next src access holds lawful fits h words views (subst (λ (z : View). IsAt count o h words views id z) is place) applies)
