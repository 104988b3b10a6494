-- the outstanding requests after one of them changes, looked up by their numbers
use Rattle.std.specs.Prelude.{◌==◌, if◌then◌else◌}
use Rattle.std.proofs.Common.{◌≡◌, ℕ, Bool, true, false, List, [], ◌∷◌, ◌++◌, All, Option, Some, None, refl, sym, ap, subst, ◌∙◌, eqb-true, ne_eqb, eq-eqb}
use Rattle.std.proofs.lemmas.List.Elements.{All-append, All-cons, All-head, All-nil, All-tail}
use Rattle.std.proofs.lemmas.Option.{none-some, same_Some}
use Rattle.chi_trace.specs.declared.operation.Operation.{Operation}
use Rattle.chi_events.specs.declared.outstanding.Open.{Open}
use Rattle.chi_events.specs.EventEffects.{Changes}
use Rattle.chi_events.specs.Outstanding.{open_with}

-- what is left of the request is found by no other number
abbrev pub IsSilent : ℕ → (Open → List Open) → Type 0
IsSilent id left = (o : Open) (l : List Open) (other : ℕ) → o.id ≡ id → (other ≡ id → ⊥) → open_with other (left o ++ l) ≡ open_with other l

-- a list whose first is of another number
pub past_first : (other : ℕ) (o : Open) (l : List Open) → (o.id ≡ other → ⊥) → open_with other (o ∷ l) ≡ open_with other l
past_first other o l apart = rw (ne_eqb o.id other apart) refl

pub at_first : (id : ℕ) (o : Open) (l : List Open) → o.id ≡ id → open_with id (o ∷ l) ≡ Some o
at_first id o l same = rw (eq-eqb o.id id same) refl

module _ (id : ℕ) (left : Open → List Open) where
  -- the requests where the first with the number changes
  abbrev pub changed : List Open → List Open
  changed [] = []
  changed (o ∷ l) = if o.id == id then left o ++ l else o ∷ changed l

  pub changes_so : (end : Open → Option Operation) (l : List Open) (o : Open) → open_with id l ≡ Some o → Changes id left end l (end o) (changed l)
  changes_so end [] o found = absurd (none-some o found)
  changes_so end (x ∷ l) o found = by_test (x.id == id) refl (changes_so end l o)
    where
      by_test : (b : Bool) → (x.id == id) ≡ b → (open_with id l ≡ Some o → Changes id left end l (end o) (changed l)) → Changes id left end (x ∷ l) (end o) (changed (x ∷ l))
      by_test true is later =
          let first : open_with id (x ∷ l) ≡ Some x = rw is refl in
          record {
            request = x;
            first = [];
            rest = l;
            was = refl;
            found = first;
            number = eqb-true x.id id is;
            is = rw is refl;
            ends = ap end (same_Some o x (sym found ∙ first));
          }
      by_test false is later =
          let past : open_with id (x ∷ l) ≡ open_with id l = rw is refl in
          let k = later (sym past ∙ found) in
          record {
            request = k.request;
            first = x ∷ k.first;
            rest = k.rest;
            was = ap (λ l. x ∷ l) k.was;
            found = past ∙ k.found;
            number = k.number;
            is = ap (λ b. if b then left x ++ l else x ∷ changed l) is ∙ ap (λ l. x ∷ l) k.is;
            ends = k.ends;
          }

  -- another number finds what it found
  pub others_kept : IsSilent id left → (other : ℕ) → (other ≡ id → ⊥) → (l : List Open) → open_with other (changed l) ≡ open_with other l
  others_kept silent other apart [] = refl
  others_kept silent other apart (x ∷ l) = by_test (x.id == id) refl (others_kept silent other apart l)
    where
      by_test : (b : Bool) → (x.id == id) ≡ b → open_with other (changed l) ≡ open_with other l → open_with other (changed (x ∷ l)) ≡ open_with other (x ∷ l)
      by_test true is rest =
          let same = eqb-true x.id id is in rw is (silent x l other same apart ∙ sym (past_first other x l (λ is_other. apart (sym is_other ∙ same))))
      by_test false is rest = rw is (by_other (x.id == other) refl)
        where
          by_other : (c : Bool) → (x.id == other) ≡ c → open_with other (x ∷ changed l) ≡ open_with other (x ∷ l)
          by_other true at = rw at refl
          by_other false at = rw at rest

  -- the number finds what is left
  pub found_left : (l : List Open) (o now : Open) → open_with id l ≡ Some o → left o ≡ now ∷ [] → now.id ≡ id → open_with id (changed l) ≡ Some now
  found_left [] o now found is number = absurd (none-some o found)
  found_left (x ∷ l) o now found is number = by_test (x.id == id) refl (found_left l o now)
    where
      by_test : (b : Bool) → (x.id == id) ≡ b → (open_with id l ≡ Some o → left o ≡ now ∷ [] → now.id ≡ id → open_with id (changed l) ≡ Some now) → open_with id (changed (x ∷ l)) ≡ Some now
      by_test true at later =
          let first : open_with id (x ∷ l) ≡ Some x = rw at refl in
          let same = same_Some x o (sym first ∙ found) in
          rw at (subst (λ (r : List Open). open_with id (r ++ l) ≡ Some now) (sym (ap left same ∙ is)) (at_first id now l number))
      by_test false at later =
          let past : open_with id (x ∷ l) ≡ open_with id l = rw at refl in
          rw (at, at) (later (sym past ∙ found) is number)

  -- what is true of each, and of what is left, stays true
  pub all_kept : (P : Open → Type 0) → ((o : Open) → P o → All P (left o)) → (l : List Open) → All P l → All P (changed l)
  all_kept P keeps [] all = All-nil P
  all_kept P keeps (x ∷ l) all = by_test (x.id == id) refl (All-head P x l all) (All-tail P x l all) (all_kept P keeps l (All-tail P x l all))
    where
      by_test : (b : Bool) → (x.id == id) ≡ b → P x → All P l → All P (changed l) → All P (changed (x ∷ l))
      by_test true is here rest done = rw is (All-append P (left x) l (keeps x here) rest)
      by_test false is here rest done = rw is (All-cons P x (changed l) here done)

pub found_number : (id : ℕ) (l : List Open) (o : Open) → open_with id l ≡ Some o → o.id ≡ id
found_number id l o found =
    let k = changes_so id (λ o. []) (λ o. None) l o found in
    ap (λ (o : Open). o.id) (same_Some o k.request (sym found ∙ k.found)) ∙ k.number
