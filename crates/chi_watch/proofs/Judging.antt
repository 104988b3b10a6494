-- granules that are judged one after the other
use Rattle.std.proofs.Common.{◌≡◌, ℕ, true, false, IfSome, List, [], ◌∷◌, ◌++◌, ◌⊎◌, inl, inr, All, Option, None, Some, refl, sym, ap, subst, ◌∙◌, append_assoc, append-nil, true≢false, arith}
use Rattle.std.specs.BTreeMap.{is_at}
use Rattle.std.specs.List.{Contains}
use Rattle.std.specs.Map.{lookup}
use Rattle.std.specs.Ordering.{is_eq, nat_cmp}
use Rattle.std.specs.declared.cmp.Ordering.{Ordering}
use Rattle.std.specs.declared.cmp.Ordering.TheVariants.{Less, Equal, Greater}
use Rattle.std.proofs.lemmas.Map.Lookups.{exact_unsigned}
use Rattle.std.proofs.lemmas.Map.Views.{Contains-from_lookup}
use Rattle.std.proofs.lemmas.List.Elements.{All-contains, All-head, All-nil, All-push, All-tail, All-weaker, Contains-append_left, Contains-push}
use Rattle.chi_search.specs.Looks.{LookedMore, LookedSome, Search, for_verdict}
use Rattle.chi_search.proofs.Growing.{grew_by, grew_some}
use Rattle.chi_watch.specs.Endings.{IsExplainable, IsInexplicableAt, IsListed, judged_word}
use Rattle.chi_judge.specs.Standings.{IfExplained, IfUndecided, IfUnexplained, IsExplainable as CanExplain, IsInexplicable as CanNotExplain}
use Rattle.chi_watch.specs.ListedAs.{IsListedAs}
use Rattle.chi_watch.specs.Undecided.{GoesOnAt}
use Rattle.chi_watch.specs.declared.judge_all.Listed.{Listed}
use Rattle.chi_watch.specs.Followed.{FollowedValue}
use Rattle.chi_judge.specs.declared.standing.Standing.{Standing}
use Rattle.chi_judge.specs.declared.standing.Standing.TheVariants.{Explained, Undecided, Unexplained}
use Rattle.chi_watch.proofs.Looked.{LookedFor, looked_decided, looked_first, looked_undecided}

-- a granule that is explained or listed
abbrev IsSaid : List ℕ → List ℕ → ℕ × FollowedValue → Type 0
IsSaid unexplained undecided e = IsExplainable e.1 ⊎ IsListed e.0 unexplained undecided

-- what is listed stays listed where one more is
listed_unexplained : (un dec : List ℕ) (h g : ℕ) → IsListed g un dec → IsListed g (un ++ h ∷ []) dec
listed_unexplained un dec h g (inl in_un) = inl (Contains-append_left un (h ∷ []) g in_un)
listed_unexplained un dec h g (inr in_dec) = inr in_dec

listed_undecided : (un dec : List ℕ) (h g : ℕ) → IsListed g un dec → IsListed g un (dec ++ h ∷ [])
listed_undecided un dec h g (inl in_un) = inl in_un
listed_undecided un dec h g (inr in_dec) = inr (Contains-append_left dec (h ∷ []) g in_dec)

-- what is said of a standing
pub said_explained : (s : Standing) (A : Type 0) → s ≡ Explained → IfExplained s A → A
said_explained s A is said = subst (λ t. IfExplained t A) is said

pub said_undecided : (s : Standing) (A : Type 0) → s ≡ Undecided → IfUndecided s A → A
said_undecided s A is said = subst (λ t. IfUndecided t A) is said

-- what is said of all entries is said of the one that a granule has
pub said_here : (entries : List (ℕ × FollowedValue)) (un dec : List ℕ) → All (λ e. IsExplainable e.1 ⊎ IsListed e.0 un dec) entries
    → (g : ℕ) → IfSome (lookup (is_at (nat_cmp g)) entries) (λ f. IsExplainable f ⊎ IsListed g un dec)
said_here entries un dec all g = by_case (lookup (is_at (nat_cmp g)) entries) refl
  where
    by_case : (o : Option FollowedValue) → lookup (is_at (nat_cmp g)) entries ≡ o → IfSome o (λ f. IsExplainable f ⊎ IsListed g un dec)
    by_case None is = tt
    by_case (Some f) is = All-contains (IsSaid un dec) entries (g, f) all (Contains-from_lookup {eq = λ q. is_at (nat_cmp q)} same_key g f entries is)
      where
        same_key : (x y : ℕ) → is_at (nat_cmp x) y ≡ true → x ≡ y
        same_key x y is = by_order (nat_cmp x y) refl is
          where
            by_order : (o : Ordering) → nat_cmp x y ≡ o → is_eq o ≡ true → x ≡ y
            by_order Less is_o so = absurd (true≢false (sym so))
            by_order Equal is_o so = exact_unsigned x y is_o
            by_order Greater is_o so = absurd (true≢false (sym so))

module _ {P : Type 0} (looked : Search → P → ℕ → Type 0) (budget : ℕ) (get : ℕ → Option FollowedValue) (entries : List (ℕ × FollowedValue)) (start : P) where
  -- The entries before those that are left are explained or listed, as it is said. The map has each that is left.
  pub record AreJudged (now : P) (ending : Listed) (left : List (ℕ × FollowedValue)) : Type 0 where
    pub seen : List (ℕ × FollowedValue)
    pub parts : entries ≡ seen ++ left
    pub said : All (IsSaid ending.unexplained.items ending.undecided.items) seen
    pub has : All (λ e. get e.0 ≡ Some e.1) left
    pub none : All (λ g. IsInexplicableAt (get g)) ending.unexplained.items
    pub go_on : All (λ g. GoesOnAt (get g)) ending.undecided.items
    pub spent : LookedFor (looked for_verdict) start now budget ending.undecided.items

  pub judged_none : (ending : Listed) (left : List (ℕ × FollowedValue)) → ending.unexplained.items ≡ [] → ending.undecided.items ≡ [] → left ≡ entries
      → All (λ e. get e.0 ≡ Some e.1) entries → AreJudged start ending left
  judged_none ending left no_un no_dec is has = record {
    seen = [];
    parts = sym is;
    said = All-nil (IsSaid ending.unexplained.items ending.undecided.items);
    has = subst (All (λ e. get e.0 ≡ Some e.1)) (sym is) has;
    none = subst (All (λ g. IsInexplicableAt (get g))) (sym no_un) (All-nil (λ g. IsInexplicableAt (get g)));
    go_on = subst (All (λ g. GoesOnAt (get g))) (sym no_dec) (All-nil (λ g. GoesOnAt (get g)));
    spent = subst (LookedFor (looked for_verdict) start start budget) (sym no_dec) (looked_first (looked for_verdict) start budget);
  }

  -- once none is left each is explained or listed
  pub judged_all : (now : P) (ending : Listed) (left : List (ℕ × FollowedValue)) → left ≡ [] → AreJudged now ending left
      → All (λ e. IsExplainable e.1 ⊎ IsListed e.0 ending.unexplained.items ending.undecided.items) entries
  judged_all now ending left none are =
      subst (All (IsSaid ending.unexplained.items ending.undecided.items)) (sym (are.parts ∙ (ap (λ l. are.seen ++ l) none ∙ append-nil are.seen))) are.said

  module _ (now : P) (ending : Listed) (left rest : List (ℕ × FollowedValue)) (g : ℕ) (f : FollowedValue) (one : left ≡ (g, f) ∷ rest) (are : AreJudged now ending left) where
    here : get g ≡ Some f
    here = All-head (λ e. get e.0 ≡ Some e.1) (g, f) rest (subst (All (λ e. get e.0 ≡ Some e.1)) one are.has)

    parted : entries ≡ (are.seen ++ (g, f) ∷ []) ++ rest
    parted = are.parts ∙ (ap (λ l. are.seen ++ l) one ∙ sym (append_assoc are.seen ((g, f) ∷ []) rest))

    rest_has : All (λ e. get e.0 ≡ Some e.1) rest
    rest_has = All-tail (λ e. get e.0 ≡ Some e.1) (g, f) rest (subst (All (λ e. get e.0 ≡ Some e.1)) one are.has)

    said_more : (un dec : List ℕ) → ((h : ℕ) → IsListed h ending.unexplained.items ending.undecided.items → IsListed h un dec) → IsSaid un dec (g, f)
        → All (IsSaid un dec) (are.seen ++ (g, f) ∷ [])
    said_more un dec stays own =
        All-push (IsSaid un dec) are.seen (g, f)
        (All-weaker (IsSaid ending.unexplained.items ending.undecided.items) (IsSaid un dec)
        (λ e is. elim is [ inl can ↦ inl can | inr listed ↦ inr (stays e.0 listed) ]) are.seen are.said) own

    -- it was judged, and listed where it is not explained
    module _ (later : P) (next : Listed) where
      pub listed : (s : Standing) → IfExplained s (CanExplain f.judge (judged_word f))
          → IfUnexplained s (CanNotExplain f.judge (judged_word f))
          → IfUndecided s (LookedMore looked now later budget) → IfUndecided s (f.judge.is_stopped ≡ false) → LookedSome looked now later → IsListedAs s g ending next → AreJudged later next rest
      listed Explained can none whole goes some (un, dec) = record {
        seen = are.seen ++ (g, f) ∷ [];
        parts = parted;
        said = said_more next.unexplained.items next.undecided.items (λ h is. subst (λ l. IsListed h l next.undecided.items) (sym un) (subst (λ l. IsListed h ending.unexplained.items l) (sym dec) is)) (inl can);
        has = rest_has;
        none = subst (All (λ h. IsInexplicableAt (get h))) (sym un) are.none;
        go_on = subst (All (λ h. GoesOnAt (get h))) (sym dec) are.go_on;
        spent = subst (LookedFor (looked for_verdict) start later budget) (sym dec) (looked_decided (looked for_verdict) start now later budget ending.undecided.items are.spent (grew_some looked now later some));
      }
      listed Unexplained can none whole goes some (un, dec) = record {
        seen = are.seen ++ (g, f) ∷ [];
        parts = parted;
        said = said_more next.unexplained.items next.undecided.items
            (λ h is. subst (λ l. IsListed h l next.undecided.items) (sym un) (subst (λ l. IsListed h (ending.unexplained.items ++ g ∷ []) l) (sym dec) (listed_unexplained ending.unexplained.items ending.undecided.items g h is)))
            (inr (inl (subst (λ l. Contains l g) (sym un) (Contains-push ending.unexplained.items g))));
        has = rest_has;
        none = subst (All (λ h. IsInexplicableAt (get h))) (sym un)
            (All-push (λ h. IsInexplicableAt (get h)) ending.unexplained.items g are.none (subst IsInexplicableAt (sym here) none));
        go_on = subst (All (λ h. GoesOnAt (get h))) (sym dec) are.go_on;
        spent = subst (LookedFor (looked for_verdict) start later budget) (sym dec) (looked_decided (looked for_verdict) start now later budget ending.undecided.items are.spent (grew_some looked now later some));
      }
      listed Undecided can none whole goes some (un, dec) = record {
        seen = are.seen ++ (g, f) ∷ [];
        parts = parted;
        said = said_more next.unexplained.items next.undecided.items
            (λ h is. subst (λ l. IsListed h l next.undecided.items) (sym un) (subst (λ l. IsListed h ending.unexplained.items l) (sym dec) (listed_undecided ending.unexplained.items ending.undecided.items g h is)))
            (inr (inr (subst (λ l. Contains l g) (sym dec) (Contains-push ending.undecided.items g))));
        has = rest_has;
        none = subst (All (λ h. IsInexplicableAt (get h))) (sym un) are.none;
        go_on = subst (All (λ h. GoesOnAt (get h))) (sym dec)
            (All-push (λ h. GoesOnAt (get h)) ending.undecided.items g are.go_on (subst GoesOnAt (sym here) goes));
        spent = subst (LookedFor (looked for_verdict) start later budget) (sym dec) (looked_undecided (looked for_verdict) start now later budget ending.undecided.items g are.spent (grew_by looked now later budget budget (omega arith) whole));
      }
