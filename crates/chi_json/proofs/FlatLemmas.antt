-- objects of members that are put one after another
use Rattle.std.proofs.Common.{◌≡◌, ℕ, ◌+◌, ◌<◌, Bool, true, false, if◌then◌else◌, List, [], ◌∷◌, ◌++◌, bytes_eq, get_or, length, take, true≢false, Bor, Option, None, Some, Ordering, Less, Equal, Greater, nat_cmp, refl, sym, ap, ◌∙◌}
use Rattle.std.proofs.lemmas.List.{take_more}
use Rattle.std.proofs.lemmas.Slice.Eq.{bytes_eq-Decides}
use Rattle.std.specs.Cmp.Lexicographic.{slice_cmp}
use Rattle.std.specs.Ordering.{match_ordering}
use Rattle.serde_json.specs.Data.{Data, Members, no_members, member, put}
use Rattle.serde_json.specs.Find.{get_member}
use Rattle.serde_json.proofs.Views.{get_member-put, get_member-put_other}
use Rattle.chi_json.specs.Datum.{datum_data}
use Rattle.chi_json.specs.Flat.{put_all}
use Rattle.chi_json.specs.Shown.{shown_text}
use Rattle.chi_json.specs.Unknown.{is_known, unknown_in}
use Rattle.chi_json.specs.declared.datum.Datum.{Datum}
use Rattle.chi_json.specs.declared.shown.ShownText.{ShownText}

abbrev pub Entry : Type 0
Entry = Bor (List ℕ) × Datum

-- one more member at the end
put_all-more : (ms : List Entry) (m : Entry) (found : Members) → put_all (ms ++ m ∷ []) found ≡ put m.0.now (datum_data m.1) (put_all ms found)
put_all-more [] m found = refl
put_all-more (x ∷ ms) m found = put_all-more ms m (put x.0.now (datum_data x.1) found)

pub put_all-push : (ms more : List Entry) (m : Entry) → more ≡ ms ++ m ∷ [] → put_all more no_members ≡ put m.0.now (datum_data m.1) (put_all ms no_members)
put_all-push ms more m is = ap (λ (l : List Entry). put_all l no_members) is ∙ put_all-more ms m no_members

pub put_all-take : (ms : List Entry) (j i : ℕ) (m : Entry) → j ≡ i + 1 → i < length ms → m ≡ get_or ms i m
    → put_all (take j ms) no_members ≡ put m.0.now (datum_data m.1) (put_all (take i ms) no_members)
put_all-take ms j i m next within is =
    ap (λ (n : ℕ). put_all (take n ms) no_members) next
    ∙ put_all-push (take i ms) (take (i + 1) ms) m (take_more ms i m within ∙ ap (λ (x : Entry). take i ms ++ x ∷ []) (sym is))

-- of some members the last has this name, or another
pub last_has : (ms : List Entry) (j i : ℕ) (m : Entry) (name : List ℕ) → j ≡ i + 1 → i < length ms → m ≡ get_or ms i m → bytes_eq m.0.now name ≡ true
    → get_member name (put_all (take j ms) no_members) ≡ Some (datum_data m.1)
last_has ms j i m name next within is same =
    ap (get_member name) (put_all-take ms j i m next within is)
    ∙ (ap (λ (k : List ℕ). get_member name (put k (datum_data m.1) (put_all (take i ms) no_members))) ((bytes_eq-Decides m.0.now name).0 same)
    ∙ get_member-put name (datum_data m.1) (put_all (take i ms) no_members))

pub last_lacks : (ms : List Entry) (j i : ℕ) (m : Entry) (name : List ℕ) → j ≡ i + 1 → i < length ms → m ≡ get_or ms i m → bytes_eq m.0.now name ≡ false
    → get_member name (put_all (take j ms) no_members) ≡ get_member name (put_all (take i ms) no_members)
last_lacks ms j i m name next within is other =
    let apart = λ (h : name ≡ m.0.now). true≢false (sym ((bytes_eq-Decides m.0.now name).1 (sym h)) ∙ other) in
    ap (get_member name) (put_all-take ms j i m next within is) ∙ get_member-put_other name m.0.now (datum_data m.1) (put_all (take i ms) no_members) apart

-- ---- members that may be there

module _ {M : Type 0} (name_of : M → List ℕ) (known : List (List M)) where
  passed : (b : Bool) (rest after : Option ShownText) (s : ShownText) → (rest ≡ None → after ≡ None) → (if b then rest else Some s) ≡ None → (if b then after else Some s) ≡ None
  passed true rest after s more none = more none
  passed false rest after s more none = cc

  -- a member that may be there is put to such members
  put_at : (o : Ordering) (k l : List ℕ) (d e : Data) (ms : Members) → is_known name_of known k ≡ true → unknown_in name_of known (member l e ms) ≡ None
      → (unknown_in name_of known ms ≡ None → unknown_in name_of known (put k d ms) ≡ None)
      → unknown_in name_of known (match_ordering o (member k d (member l e ms)) (member l d ms) (member l e (put k d ms))) ≡ None
  unfolding unknown_in
  put_at Less k l d e ms is none later = rw is none
  put_at Equal k l d e ms is none later = none
  put_at Greater k l d e ms is none later = passed (is_known name_of known l) (unknown_in name_of known ms) (unknown_in name_of known (put k d ms)) (shown_text l) later none

  pub unknown_in-put : (k : List ℕ) (d : Data) (ms : Members) → is_known name_of known k ≡ true → unknown_in name_of known ms ≡ None → unknown_in name_of known (put k d ms) ≡ None
  unfolding unknown_in
  unknown_in-put k d no_members is none = rw is refl
  unknown_in-put k d (member l e ms) is none = put_at (slice_cmp nat_cmp k l) k l d e ms is none (unknown_in-put k d ms is)

  pub known_more : (ms : List Entry) (i : ℕ) (m : Entry) → i < length ms → m ≡ get_or ms i m → is_known name_of known m.0.now ≡ true → unknown_in name_of known (put_all (take i ms) no_members) ≡ None
      → unknown_in name_of known (put_all (take (i + 1) ms) no_members) ≡ None
  known_more ms i m within at is none =
      ap (unknown_in name_of known) (put_all-take ms (i + 1) i m refl within at) ∙ unknown_in-put m.0.now (datum_data m.1) (put_all (take i ms) no_members) is none
