-- the grammar of values, objects and lists that are read one part after another
use Rattle.std.proofs.Common.{◌≡◌, ℕ, ◌-◌, ◌<◌, ◌≤◌, Bool, List, [], ◌∷◌, length, Option, Some, None, option_map, option_and_then, refl, ap, ◌∙◌, ◌++◌}
use Rattle.json.specs.Token.{Token}
use Rattle.json.specs.Lex.{tokens}
use Rattle.json.specs.Json as json
use Rattle.json.specs.Json.{Parse, after_end_array, if_last, items, members, parse_map, read_key, value}
use Rattle.json.proofs.Grammar.{items_end, items_more, members_end, members_more, value_is, value-begin_array, value-begin_object}
use Rattle.serde_json.specs.Data.{Data, Items, Members, Num, array, boolean, item, no_items, no_members, null, number, object, put, string}
use Rattle.serde_json.specs.View.{items_view, view}
use Rattle.serde_json.specs.declared.value.Value.{Value}
use Rattle.serde_json.specs.Read.{converted, number_of, of_items, of_json, of_members, read}

abbrev pick : {A : Type 0} → A → Option A → A
pick d None = d
pick d (Some a) = a

found : {A B : Type 0} (a : A) (r s : List Token) (x : Option B) (b : B) → option_map {U = B × List Token} (λ y. (y, r)) x ≡ Some (b, s) → (r ≡ s) × (x ≡ Some b)
found a r s None b e = absurd (cc)
found a r s (Some y) b e = let same = ap (pick (y, r)) e in (ap (λ p. p.1) same, ap (λ p. Some p.0) same)

-- what was read, before it was converted
read_as : {A B : Type 0} (f : A → Option B) (o : Option (A × List Token)) (b : B) (r : List Token) → converted f o ≡ Some (b, r) → (a : A) × (o ≡ Some (a, r)) × (f a ≡ Some b)
read_as f None b r e = absurd (cc)
read_as f (Some p) b r e = let both = found p.0 p.1 r (f p.0) b e in (p.0, ap (λ s. Some (p.0, s)) both.0, both.1)

with_member : (k : List ℕ) (j : json.Json) (d : Data) (old : Members) → of_json j ≡ Some d → (o : Option (json.Members × List Token))
    → converted (λ ms. of_members ms old) (parse_map (json.member k j) o) ≡ converted (λ ms. of_members ms (put k d old)) o
with_member k j d old e None = refl
with_member k j d old e (Some p) = rw e

-- a value that is no list and no object
module _ (depth : ℕ) (ts r : List Token) where
  pub null_read : ts ≡ Token.null ∷ r → converted of_json (value depth ts) ≡ Some (null, r)
  null_read is = ap (converted of_json) (ap (value depth) is ∙ value_is depth (Token.null ∷ r))

  pub boolean_read : (b : Bool) → ts ≡ Token.boolean b ∷ r → converted of_json (value depth ts) ≡ Some (boolean b, r)
  boolean_read b is = ap (converted of_json) (ap (value depth) is ∙ value_is depth (Token.boolean b ∷ r))

  pub string_read : (s : List ℕ) → ts ≡ Token.string s ∷ r → converted of_json (value depth ts) ≡ Some (string s, r)
  string_read s is = ap (converted of_json) (ap (value depth) is ∙ value_is depth (Token.string s ∷ r))

  pub number_read : (s : List ℕ) (n : Num) → ts ≡ Token.number s ∷ r → number_of s ≡ Some n → converted of_json (value depth ts) ≡ Some (number n, r)
  number_read s n is e = ap (converted of_json) (ap (value depth) is ∙ value_is depth (Token.number s ∷ r)) ∙ rw e refl

module _ (p : Parse json.Json) (n : ℕ) where
  -- one member more
  pub member_read : (k : List ℕ) (ts s r : List Token) (d : Data) (old : Members) → 0 < n → read_key ts ≡ Some (Some k, s) → converted of_json (p s) ≡ Some (d, r)
      → converted (λ ms. of_members ms old) (members p n ts) ≡ converted (λ ms. of_members ms (put k d old)) (members p (n - 1) r)
  member_read k ts s r d old some key e =
      let j = read_as of_json (p s) d r e in
      ap (converted (λ ms. of_members ms old)) (members_more p n k ts s r j.0 some key j.1) ∙ with_member k j.0 d old j.2 _

  -- no member more
  pub members_over : (ts r : List Token) (old : Members) → length ts ≤ n → read_key ts ≡ Some (None, r)
      → converted (λ ms. of_members ms old) (members p n ts) ≡ Some (old, r)
  members_over ts r old enough e = ap (converted (λ ms. of_members ms old)) (members_end p n ts r enough e)

  -- one element more, and what follows it
  pub item_read : (ts r s : List Token) (d : Data) (rest : Items) → 0 < n → after_end_array ts ≡ None → converted of_json (p ts) ≡ Some (d, r)
      → converted of_items (items p (n - 1) r) ≡ Some (rest, s) → converted of_items (items p n ts) ≡ Some (item d rest, s)
  item_read ts r s d rest some more e follows =
      let j = read_as of_json (p ts) d r e in
      let js = read_as of_items (items p (n - 1) r) rest s follows in
      ap (converted of_items) (items_more p n ts r j.0 some more j.1 ∙ ap (parse_map (json.item j.0)) js.1) ∙ rw (j.2, js.2) refl

  -- no element more
  pub items_over : (ts r : List Token) → length ts ≤ n → after_end_array ts ≡ Some r → converted of_items (items p n ts) ≡ Some (no_items, r)
  items_over ts r enough e = ap (converted of_items) (items_end p n ts r enough e)

-- an object, of whose members the end is read
pub object_read : (depth : ℕ) (ts s r : List Token) (ms : Members) → 0 < depth → ts ≡ Token.begin_object ∷ s
    → converted (λ m. of_members m no_members) (members (value (depth - 1)) (length s) s) ≡ Some (ms, r) → converted of_json (value depth ts) ≡ Some (object ms, r)
object_read depth ts s r ms some is e =
    let j = read_as (λ m. of_members m no_members) (members (value (depth - 1)) (length s) s) ms r e in
    ap (converted of_json) (ap (value depth) is ∙ (value-begin_object depth s some ∙ ap (parse_map json.object) j.1)) ∙ rw j.2 refl

-- a list, of whose elements the end is read
pub array_read : (depth : ℕ) (ts s r : List Token) (ds : Items) → 0 < depth → ts ≡ Token.begin_array ∷ s
    → converted of_items (items (value (depth - 1)) (length s) s) ≡ Some (ds, r) → converted of_json (value depth ts) ≡ Some (array ds, r)
array_read depth ts s r ds some is e =
    let j = read_as of_items (items (value (depth - 1)) (length s) s) ds r e in
    ap (converted of_json) (ap (value depth) is ∙ (value-begin_array depth s some ∙ ap (parse_map json.array) j.1)) ∙ rw j.2 refl

-- a text that is one value, and nothing after it
pub text_read : (text : List ℕ) (d : Data) → converted of_json (value 127 (tokens text)) ≡ Some (d, []) → read text ≡ Some d
text_read text d e =
    let j = read_as of_json (value 127 (tokens text)) d [] e in
    ap (λ (o : Option (json.Json × List Token)). option_and_then of_json (option_and_then (λ p. if_last p.0 p.1) o)) j.1 ∙ j.2

-- some values, and then further elements
abbrev pub before : List Value → Items → Items
before [] rest = rest
before (v ∷ vs) rest = item (view v) (before vs rest)

pub before-push : (vs more : List Value) (v : Value) (rest : Items) → more ≡ vs ++ v ∷ [] → before more rest ≡ before vs (item (view v) rest)
before-push vs more v rest is = ap (λ (l : List Value). before l rest) is ∙ pushed vs
  where
    pushed : (vs : List Value) → before (vs ++ v ∷ []) rest ≡ before vs (item (view v) rest)
    pushed [] = refl
    pushed (x ∷ vs) = ap (item (view x)) (pushed vs)

pub before-none : (vs : List Value) → before vs no_items ≡ items_view vs
before-none [] = refl
before-none (v ∷ vs) = ap (item (view v)) (before-none vs)
