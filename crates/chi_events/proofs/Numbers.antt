-- requests that are kept by their numbers, the last that was taken first
use Rattle.std.proofs.Common.{◌≡◌, ℕ, ◌==◌, Bool, true, false, cond, not, nat_eq, List, [], ◌∷◌, ◌++◌, append-nil, reverse, All, Option, Some, None, refl, sym, ap, subst, ◌∙◌, eqb-true}
use Rattle.std.specs.Prelude.{filter}
use Rattle.std.specs.List.{AllByRecursion, IsDistinct}
use Rattle.std.specs.Map.{keys_of, lookup, lookup_entry, remove_entry, set_value, values_of}
use Rattle.std.specs.Option.{option_or}
use Rattle.std.proofs.lemmas.Bool.{eq-eqb, eqb-false, ne_eqb}
use Rattle.std.proofs.lemmas.Grind.{reverse_onto}
use Rattle.std.proofs.lemmas.List.{append_assoc}
use Rattle.std.proofs.lemmas.List.Elements.{All-cons, All-head, All-tail, filter-append}
use Rattle.std.proofs.lemmas.List.Folds.{find-append}
use Rattle.std.proofs.lemmas.Map.Keys.{IsDistinct-head, IsDistinct-tail}
use Rattle.chi_events.specs.declared.outstanding.Open.{Open}
use Rattle.chi_events.specs.Outstanding.{open_with}
use Rattle.chi_events.specs.Requests.{Replaces}

abbrev pub Entries : Type 0
Entries = List (ℕ × Open)

-- a request stands by its number
abbrev pub IsNumbered : ℕ × Open → Type 0
IsNumbered e = e.0 ≡ e.1.id

abbrev pub Numbered : Entries → Type 0
Numbered = All IsNumbered

abbrev pub taken : Entries → List Open
taken es = reverse (values_of es)

pub latest : (e : ℕ × Open) (es : Entries) → taken (e ∷ es) ≡ taken es ++ e.1 ∷ []
latest e es = reverse_onto (values_of es) e.1 []

same : (a b : ℕ) (t : Bool) → (a == b) ≡ t → (b == a) ≡ t
same a b true is = eq-eqb b a (sym (eqb-true a b is))
same a b false is = ne_eqb b a (λ here. eqb-false a b is (sym here))

or_none : (found : Option Open) → option_or found None ≡ found
or_none None = refl
or_none (Some o) = refl

module _ (id : ℕ) where
  -- the request of an entry is of the number exactly where the entry is
  tested : (e : ℕ × Open) (t : Bool) → e.0 ≡ e.1.id → (id == e.0) ≡ t → (e.1.id == id) ≡ t
  tested e t number is = same id e.1.id t (ap (λ k. id == k) (sym number) ∙ is)

  -- the number is none of these
  abbrev IsFree : Entries → Type 0
  IsFree es = AllByRecursion (λ k. (id == k) ≡ false) (keys_of es)

  last_found : (e : ℕ × Open) (es : Entries) (t : Bool) → (e.1.id == id) ≡ t → open_with id (taken (e ∷ es)) ≡ option_or (open_with id (taken es)) (cond t (Some e.1) None)
  last_found e es t is =
      ap (open_with id) (latest e es) ∙ (find-append (λ (o : Open). o.id == id) (taken es) (e.1 ∷ [])
      ∙ ap (λ b. option_or (open_with id (taken es)) (cond b (Some e.1) None)) is)

  pub none_with : (es : Entries) → Numbered es → IsFree es → open_with id (taken es) ≡ None
  none_with [] numbered free = refl
  none_with (e ∷ es) numbered free =
      last_found e es false (tested e false (All-head IsNumbered e es numbered) free.0)
      ∙ ap (λ (found : Option Open). option_or found None) (none_with es (All-tail IsNumbered e es numbered) free.1)

  free_beside : (e : ℕ × Open) (es : Entries) → IsDistinct nat_eq (keys_of (e ∷ es)) → (id == e.0) ≡ true → IsFree es
  free_beside e es distinct is = subst (λ k. AllByRecursion (λ y. (k == y) ≡ false) (keys_of es)) (sym (eqb-true id e.0 is)) (IsDistinct-head nat_eq e.0 (keys_of es) distinct)

  -- the entry of a number has the request of that number
  pub with_number : (es : Entries) → Numbered es → IsDistinct nat_eq (keys_of es) → lookup (nat_eq id) es ≡ open_with id (taken es)
  with_number [] numbered distinct = refl
  with_number (e ∷ es) numbered distinct =
      by_test (id == e.0) refl (with_number es (All-tail IsNumbered e es numbered) (IsDistinct-tail nat_eq e.0 (keys_of es) distinct))
    where
      number : e.0 ≡ e.1.id
      number = All-head IsNumbered e es numbered

      earlier : Numbered es
      earlier = All-tail IsNumbered e es numbered

      by_test : (t : Bool) → (id == e.0) ≡ t → lookup (nat_eq id) es ≡ open_with id (taken es) → cond t (Some e.1) (lookup (nat_eq id) es) ≡ open_with id (taken (e ∷ es))
      by_test true is rest =
          sym (last_found e es true (tested e true number is) ∙ ap (λ (found : Option Open). option_or found (Some e.1)) (none_with es earlier (free_beside e es distinct is)))
      by_test false is rest = rest ∙ sym (last_found e es false (tested e false number is) ∙ or_none (open_with id (taken es)))

  abbrev others : List Open → List Open
  others = filter (λ o. not (o.id == id))

  last_kept : (e : ℕ × Open) (es : Entries) (t : Bool) → (e.1.id == id) ≡ t → others (taken (e ∷ es)) ≡ others (taken es) ++ cond (not t) (e.1 ∷ []) []
  last_kept e es t is =
      ap others (latest e es) ∙ (filter-append (λ (o : Open). not (o.id == id)) (taken es) (e.1 ∷ [])
      ∙ ap (λ b. others (taken es) ++ cond (not b) (e.1 ∷ []) []) is)

  all_others : (es : Entries) → Numbered es → IsFree es → others (taken es) ≡ taken es
  all_others [] numbered free = refl
  all_others (e ∷ es) numbered free =
      last_kept e es false (tested e false (All-head IsNumbered e es numbered) free.0)
      ∙ (ap (λ l. l ++ e.1 ∷ []) (all_others es (All-tail IsNumbered e es numbered) free.1) ∙ sym (latest e es))

  -- without the entry of a number the requests of other numbers are left
  pub others_left : (es : Entries) → Numbered es → IsDistinct nat_eq (keys_of es) → taken (remove_entry (nat_eq id) es) ≡ others (taken es)
  others_left [] numbered distinct = refl
  others_left (e ∷ es) numbered distinct =
      by_test (id == e.0) refl (others_left es (All-tail IsNumbered e es numbered) (IsDistinct-tail nat_eq e.0 (keys_of es) distinct))
    where
      number : e.0 ≡ e.1.id
      number = All-head IsNumbered e es numbered

      earlier : Numbered es
      earlier = All-tail IsNumbered e es numbered

      left : Entries
      left = remove_entry (nat_eq id) es

      by_test : (t : Bool) → (id == e.0) ≡ t → taken left ≡ others (taken es) → taken (cond t es (e ∷ left)) ≡ others (taken (e ∷ es))
      by_test true is rest =
          sym (last_kept e es true (tested e true number is) ∙ (append-nil (others (taken es)) ∙ all_others es earlier (free_beside e es distinct is)))
      by_test false is rest = latest e left ∙ (ap (λ l. l ++ e.1 ∷ []) rest ∙ sym (last_kept e es false (tested e false number is)))

  -- a request of the number is put in the place of another one
  pub numbered_set : (now : Open) (es : Entries) → now.id ≡ id → Numbered es → Numbered (set_value (nat_eq id) es now)
  numbered_set now [] number numbered = numbered
  numbered_set now (e ∷ es) number numbered = by_test (id == e.0) refl (numbered_set now es number (All-tail IsNumbered e es numbered))
    where
      with_now : Entries
      with_now = set_value (nat_eq id) es now

      by_test : (t : Bool) → (id == e.0) ≡ t → Numbered with_now → Numbered (cond t ((e.0, now) ∷ es) (e ∷ with_now))
      by_test true is rest = All-cons IsNumbered (e.0, now) es (sym (eqb-true id e.0 is) ∙ sym number) (All-tail IsNumbered e es numbered)
      by_test false is rest = All-cons IsNumbered e with_now (All-head IsNumbered e es numbered) rest

module _ (test : ℕ → Bool) where
  pub numbered_left : (es : Entries) → Numbered es → Numbered (remove_entry test es)
  numbered_left [] numbered = numbered
  numbered_left (e ∷ es) numbered = by_test (test e.0) (numbered_left es (All-tail IsNumbered e es numbered))
    where
      by_test : (t : Bool) → Numbered (remove_entry test es) → Numbered (cond t es (e ∷ remove_entry test es))
      by_test true rest = All-tail IsNumbered e es numbered
      by_test false rest = All-cons IsNumbered e (remove_entry test es) (All-head IsNumbered e es numbered) rest

  -- a change of the earlier ones is one of all
  further : (o : Open) (left : List Open) (e : ℕ × Open) (before after : Entries) → Replaces o left (taken before) (taken after) → Replaces o left (taken (e ∷ before)) (taken (e ∷ after))
  further o left e before after r = record {
    first = r.first;
    rest = r.rest ++ e.1 ∷ [];
    was = latest e before ∙ (ap (λ l. l ++ e.1 ∷ []) r.was ∙ append_assoc r.first (o ∷ r.rest) (e.1 ∷ []));
    is = latest e after ∙ (ap (λ l. l ++ e.1 ∷ []) r.is ∙ (append_assoc r.first (left ++ r.rest) (e.1 ∷ []) ∙ ap (λ l. r.first ++ l) (append_assoc left r.rest (e.1 ∷ []))));
  }

  -- of the last one
  last : (o : Open) (left : List Open) (e : ℕ × Open) (es after : Entries) → e.1 ≡ o → taken after ≡ taken es ++ left → Replaces o left (taken (e ∷ es)) (taken after)
  last o left e es after same is = record {
    first = taken es;
    rest = [];
    was = latest e es ∙ ap (λ (x : Open). taken es ++ x ∷ []) same;
    is = is ∙ ap (λ l. taken es ++ l) (sym (append-nil left));
  }

  some : (a b : Open) → Some a ≡ Some b → a ≡ b
  some a b is = cc

  pub removed : (o : Open) (es : Entries) → lookup test es ≡ Some o → Replaces o [] (taken es) (taken (remove_entry test es))
  removed o [] found = cc
  removed o (e ∷ es) found = by_test (test e.0) found (removed o es)
    where
      left : Entries
      left = remove_entry test es

      by_test : (t : Bool) → cond t (Some e.1) (lookup test es) ≡ Some o → (lookup test es ≡ Some o → Replaces o [] (taken es) (taken left))
          → Replaces o [] (taken (e ∷ es)) (taken (cond t es (e ∷ left)))
      by_test true found rest = last o [] e es es (some e.1 o found) (sym (append-nil (taken es)))
      by_test false found rest = further o [] e es left (rest found)

  pub replaced : (now o : Open) (es : Entries) → lookup test es ≡ Some o → Replaces o (now ∷ []) (taken es) (taken (set_value test es now))
  replaced now o [] found = cc
  replaced now o (e ∷ es) found = by_test (test e.0) found (replaced now o es)
    where
      with_now : Entries
      with_now = set_value test es now

      by_test : (t : Bool) → cond t (Some e.1) (lookup test es) ≡ Some o → (lookup test es ≡ Some o → Replaces o (now ∷ []) (taken es) (taken with_now))
          → Replaces o (now ∷ []) (taken (e ∷ es)) (taken (cond t ((e.0, now) ∷ es) (e ∷ with_now)))
      by_test true found rest = last o (now ∷ []) e es ((e.0, now) ∷ es) (some e.1 o found) (latest (e.0, now) es)
      by_test false found rest = further o (now ∷ []) e es with_now (rest found)

  -- none passes
  pub no_entry : (es : Entries) → lookup test es ≡ None → lookup_entry test es ≡ None
  no_entry [] none = refl
  no_entry (e ∷ es) none = by_test (test e.0) none (no_entry es)
    where
      by_test : (t : Bool) → cond t (Some e.1) (lookup test es) ≡ None → (lookup test es ≡ None → lookup_entry test es ≡ None) → cond t (Some e) (lookup_entry test es) ≡ None
      by_test true none rest = cc
      by_test false none rest = rest none

  pub none_removed : (es : Entries) → lookup test es ≡ None → remove_entry test es ≡ es
  none_removed [] none = refl
  none_removed (e ∷ es) none = by_test (test e.0) none (none_removed es)
    where
      by_test : (t : Bool) → cond t (Some e.1) (lookup test es) ≡ None → (lookup test es ≡ None → remove_entry test es ≡ es) → cond t es (e ∷ remove_entry test es) ≡ e ∷ es
      by_test true none rest = cc
      by_test false none rest = ap (λ l. e ∷ l) (rest none)

-- the request that is kept by a number has it
pub found_number : (id : ℕ) (o : Open) (es : Entries) → Numbered es → lookup (nat_eq id) es ≡ Some o → o.id ≡ id
found_number id o [] numbered found = cc
found_number id o (e ∷ es) numbered found = by_test (id == e.0) refl found (found_number id o es (All-tail IsNumbered e es numbered))
  where
    by_test : (t : Bool) → (id == e.0) ≡ t → cond t (Some e.1) (lookup (nat_eq id) es) ≡ Some o → (lookup (nat_eq id) es ≡ Some o → o.id ≡ id) → o.id ≡ id
    by_test true is found rest =
        let here : e.1 ≡ o = cc in ap (λ (x : Open). x.id) (sym here) ∙ (sym (All-head IsNumbered e es numbered) ∙ sym (eqb-true id e.0 is))
    by_test false is found rest = rest found
