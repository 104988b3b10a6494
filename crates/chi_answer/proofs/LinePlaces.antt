-- the other granules of a line, one place after the other
use Rattle.std.proofs.Common.{◌≡◌, ◌⊎◌, ℕ, ◌+◌, ◌-◌, ◌*◌, ◌/◌, ◌<◌, ◌≤◌, List, [], ◌∷◌, ◌++◌, All, get_or, inl, inr, length, refl, sym, ap, subst, ◌∙◌, arith, length-append}
use Rattle.std.specs.List.{AllPairs, Contains}
use Rattle.std.proofs.lemmas.Bool.{cases_lt}
use Rattle.std.proofs.lemmas.List.{get_or-append_right, get_or_append_left}
use Rattle.std.proofs.lemmas.List.Elements.{All-nil, All-push, All-weaker, Contains-append_left}
use Rattle.chi_reading.specs.TraceText.{RecordedValue}
use Rattle.chi_trace.specs.Traces.{IsExplainedIn}
use Rattle.chi_answer.specs.Beside.{AreBeside, IsBeside, IsGrown, IsToldOrExplained, TellsAll}

-- one number more that is above all
rising_more : (xs : List ℕ) (x : ℕ) → AllPairs (λ g h. g < h) xs → All (λ g. g < x) xs → AllPairs (λ g h. g < h) (xs ++ x ∷ [])
rising_more xs x pairs below i j d first within = elim (cases_lt j (length xs)) [
  | inl inside ↦
      let early = get_or_append_left xs (x ∷ []) d i (omega (arith, first, inside)) in
      let late = get_or_append_left xs (x ∷ []) d j inside in
      let less = pairs i j d first inside in
      omega (arith, early, late, less)
  | inr past ↦
      let last : j ≡ length xs = (let most = length-append xs (x ∷ []) in omega (arith, past, within, most)) in
      let early = get_or_append_left xs (x ∷ []) d i (omega (arith, first, last)) in
      let late : get_or (xs ++ x ∷ []) j d ≡ x = get_or-append_right xs (x ∷ []) (length xs) j d refl (omega (arith, last)) ∙ ap (λ n. get_or (x ∷ []) n d) (let none : j - length xs ≡ 0 = omega (arith, last) in none) in
      let less = below i d (omega (arith, first, last)) in
      omega (arith, early, late, less)
]

-- what is known of those before a place of the line
pub record IsUpTo (r : RecordedValue) (granule first place : ℕ) (beside : List ℕ) (Spent : Type 0) : Type 0 where
  pub are : AreBeside r granule beside
  pub below : All (λ g. g < first + place) beside
  pub all : (k : ℕ) → k < place → (first + k ≡ granule → ⊥) → IsToldOrExplained r beside (first + k) ⊎ Spent

module _ (r : RecordedValue) (granule first : ℕ) (first_is : first ≡ granule / 8 * 8) where
  pub none_yet : (beside : List ℕ) (Spent : Type 0) → beside ≡ [] → IsUpTo r granule first 0 beside Spent
  none_yet beside Spent none = subst (λ (l : List ℕ). IsUpTo r granule first 0 l Spent) (sym none) (record {
    are = record {
      rising = λ i j d before within. absurd (omega (arith, within));
      others = All-nil (IsBeside granule);
      unexplained = All-nil (λ g. (order : List ℕ) → IsExplainedIn r.trace r.final_words g order → ⊥);
    };
    below = All-nil (λ g. g < first + 0);
    all = λ k before. absurd (omega (arith, before));
  })

  -- one place more
  module _ (place : ℕ) (old new : List ℕ) (left less : ℕ) (on_line : place < 8) (fewer : less ≤ left)
      (up : IsUpTo r granule first place old (left ≡ 0)) (told : (first + place ≡ granule → ⊥) → IsToldOrExplained r new (first + place) ⊎ (less ≡ 0)) where
    abbrev pub g : ℕ
    g = first + place

    -- what was told stays told
    all : ((k : ℕ) → Contains old k → Contains new k) → (k : ℕ) → k < place + 1 → (first + k ≡ granule → ⊥) → IsToldOrExplained r new (first + k) ⊎ (less ≡ 0)
    all stays k before other = elim (cases_lt k place) [
      | inl earlier ↦ elim (up.all k earlier other) [
        | inl known ↦ inl (elim known [
          | inl there ↦ inl (stays (first + k) there)
          | inr explained ↦ inr explained
        ])
        | inr spent ↦ inr (omega (arith, spent, fewer))
      ]
      | inr past ↦
          let here : place ≡ k = omega (arith, before, past) in
          subst (λ n. (first + n ≡ granule → ⊥) → IsToldOrExplained r new (first + n) ⊎ (less ≡ 0)) here told other
    ]

    pub one_more : IsGrown r granule g old new → IsUpTo r granule first (place + 1) new (less ≡ 0)
    one_more grown = elim grown [
      | inl same ↦ record {
        are = subst (AreBeside r granule) (sym same) up.are;
        below = subst (All (λ h. h < first + (place + 1))) (sym same) (All-weaker (λ h. h < first + place) (λ h. h < first + (place + 1)) (λ h less. omega (arith, less)) old up.below);
        all = all (λ k there. subst (λ (l : List ℕ). Contains l k) (sym same) there);
      }
      | inr (is, other, none) ↦ record {
        are = record {
          rising = subst (AllPairs (λ a b. a < b)) (sym is) (rising_more old g up.are.rising up.below);
          others = subst (All (IsBeside granule)) (sym is) (All-push (IsBeside granule) old g up.are.others (omega (arith, first_is, on_line), other));
          unexplained = subst (All (λ h. (order : List ℕ) → IsExplainedIn r.trace r.final_words h order → ⊥)) (sym is)
              (All-push (λ h. (order : List ℕ) → IsExplainedIn r.trace r.final_words h order → ⊥) old g up.are.unexplained none);
        };
        below = subst (All (λ h. h < first + (place + 1))) (sym is)
            (All-push (λ h. h < first + (place + 1)) old g (All-weaker (λ h. h < first + place) (λ h. h < first + (place + 1)) (λ h less. omega (arith, less)) old up.below) (omega arith));
        all = all (λ k there. subst (λ (l : List ℕ). Contains l k) (sym is) (Contains-append_left old (g ∷ []) k there));
      }
    ]

  -- the whole line
  pub whole_line : (beside : List ℕ) (Spent : Type 0) → IsUpTo r granule first 8 beside Spent → TellsAll Spent r granule beside
  whole_line beside Spent up g is =
      let on : first + (g - first) ≡ g = omega (arith, first_is, is.0) in
      subst (λ h. IsToldOrExplained r beside h ⊎ Spent) on (up.all (g - first) (omega (arith, first_is, is.0)) (λ same. is.1 (sym on ∙ same)))
