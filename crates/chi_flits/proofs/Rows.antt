-- one event for each operation of a request: what they ask, and what they do
use Rattle.std.specs.Prelude.{◌<◌, ◌^◌, ◌==◌, ◌&&◌, ◌⊎◌, if◌then◌else◌, filter_map}
use Rattle.std.specs.List.{cons_option, range_with_len}
use Rattle.std.proofs.Common.{◌≡◌, ℕ, zero, suc, ◌+◌, ◌*◌, ◌≤◌, Bool, true, false, List, [], ◌∷◌, ◌++◌, map, All, Option, Some, None, is_some, inl, inr, refl, sym, ap, subst, ◌∙◌, arith}
use Rattle.std.proofs.lemmas.Bool.{cases_eq}
use Rattle.std.proofs.lemmas.List.Elements.{All-cons, All-nil, All-push}
use Rattle.std.proofs.lemmas.Option.{none-some, same_Some}
use Rattle.chi_events.specs.declared.event.EventKind.{EventKind}
use Rattle.chi_events.specs.declared.event.EventKind.TheVariants as event
use Rattle.chi_events.specs.declared.outstanding.Open.{Open}
use Rattle.chi_events.specs.EventEffects.{opened, still_open, with_data, with_reply}
use Rattle.chi_events.specs.Outstanding.{open_with}
use Rattle.chi_flits.specs.Told.{number_of}
use Rattle.chi_flits.proofs.Lookups.{IsSilent, all_kept, at_first, changed, found_left, others_kept, past_first}
use Rattle.chi_flits.proofs.Ready.{AreReady, Ready, effect, effects, number_in}

-- the numbers of operations
pub number_is : (place i : ℕ) → place < 2 ^ 61 → i < 8 → number_of place i ≡ 8 * place + i
number_is place i below few = omega arith

pub numbers_apart : (place other i j : ℕ) → place < 2 ^ 61 → other < 2 ^ 61 → i < 8 → j < 8 → (place ≡ other → ⊥) → number_of place i ≡ number_of other j → ⊥
numbers_apart place other i j below beneath few small apart same = absurd (omega arith)

pub operations_apart : (place i j : ℕ) → place < 2 ^ 61 → i < 8 → j < 8 → (i ≡ j → ⊥) → number_of place i ≡ number_of place j → ⊥
operations_apart place i j below few small apart same = absurd (omega arith)

pub number_below : (place i count : ℕ) → place < count → count ≤ 2 ^ 61 → i < 8 → number_of place i < 8 * count
number_below place i count below few small = omega arith

-- the event is about the request with a number
abbrev pub IsOf : ℕ → EventKind → Type 0
IsOf n (event.Request r) = r.id ≡ n
IsOf n (event.Data p) = p.id ≡ n
IsOf n (event.Reply c) = c.id ≡ n
IsOf n (event.Dropped id) = id ≡ n
IsOf n _ = ⊥

pub number_so : (n : ℕ) (k : EventKind) → IsOf n k → number_in k ≡ n
number_so n (event.Request r) is = is
number_so n (event.Data p) is = is
number_so n (event.Reply c) is = is
number_so n (event.Dropped id) is = is
number_so n (event.Refused id reason) is = absurd is
number_so n (event.Word w) is = absurd is
number_so n (event.Final w) is = absurd is
number_so n (event.Unknown addr len) is = absurd is
number_so n event.End is = absurd is

silent_open : (id : ℕ) (f : Open → Open) → ((o : Open) → (f o).id ≡ o.id) → IsSilent id (λ o. still_open (f o))
silent_open id f same o l other is apart = by_test (is_some (f o).access && is_some (f o).completion)
  where
    by_test : (b : Bool) → open_with other ((if b then [] else f o ∷ []) ++ l) ≡ open_with other l
    by_test true = refl
    by_test false = past_first other (f o) l (λ at. apart (sym at ∙ (same o ∙ is)))

pushed_others : (other : ℕ) (o : Open) (l : List Open) → (other ≡ o.id → ⊥) → open_with other (l ++ o ∷ []) ≡ open_with other l
pushed_others other o [] apart = past_first other o [] (λ at. apart (sym at))
pushed_others other o (x ∷ l) apart = by_test (x.id == other) refl (pushed_others other o l apart)
  where
    by_test : (b : Bool) → (x.id == other) ≡ b → open_with other (l ++ o ∷ []) ≡ open_with other l → open_with other (x ∷ (l ++ o ∷ [])) ≡ open_with other (x ∷ l)
    by_test true is rest = rw is refl
    by_test false is rest = rw is rest

pushed_own : (o : Open) (l : List Open) → open_with o.id l ≡ None → open_with o.id (l ++ o ∷ []) ≡ Some o
pushed_own o [] none = at_first o.id o [] refl
pushed_own o (x ∷ l) none = by_test (x.id == o.id) refl (pushed_own o l)
  where
    by_test : (b : Bool) → (x.id == o.id) ≡ b → (open_with o.id l ≡ None → open_with o.id (l ++ o ∷ []) ≡ Some o) → open_with o.id (x ∷ (l ++ o ∷ [])) ≡ Some o
    by_test true is rest =
        let first : open_with o.id (x ∷ l) ≡ Some x = rw is refl in
        absurd (none-some x (sym none ∙ first))
    by_test false is rest =
        let past : open_with o.id (x ∷ l) ≡ open_with o.id l = rw is refl in
        rw is (rest (sym past ∙ none))

-- the events of a row of operations, where they tell one
abbrev pub row : (ℕ → Option EventKind) → ℕ → ℕ → List EventKind
row tells a n = filter_map tells (range_with_len a n)

module _ (time : ℕ) where
  -- what is left of a request after an event
  abbrev pub left_of : EventKind → Option Open → List Open
  left_of (event.Request r) found = opened time r ∷ []
  left_of (event.Data p) (Some o) = still_open (with_data p o)
  left_of (event.Reply c) (Some o) = still_open (with_reply c o)
  left_of _ _ = []

  pub effect_others : (n : ℕ) (k : EventKind) → IsOf n k → (other : ℕ) → (other ≡ n → ⊥) → (l : List Open) → open_with other (effect time k l) ≡ open_with other l
  effect_others n (event.Request r) is other apart l = pushed_others other (opened time r) l (λ at. apart (at ∙ is))
  effect_others n (event.Data p) is other apart l =
      others_kept p.id (λ o. still_open (with_data p o)) (silent_open p.id (with_data p) (λ o. refl)) other (λ at. apart (at ∙ is)) l
  effect_others n (event.Reply c) is other apart l =
      others_kept c.id (λ o. still_open (with_reply c o)) (silent_open c.id (with_reply c) (λ o. refl)) other (λ at. apart (at ∙ is)) l
  effect_others n (event.Dropped id) is other apart l = others_kept id (λ o. []) (λ o m x at away. refl) other (λ at. apart (at ∙ is)) l
  effect_others n (event.Refused id reason) is other apart l = absurd is
  effect_others n (event.Word w) is other apart l = absurd is
  effect_others n (event.Final w) is other apart l = absurd is
  effect_others n (event.Unknown addr len) is other apart l = absurd is
  effect_others n event.End is other apart l = absurd is

  same_head : (x y : Open) → x ∷ [] ≡ y ∷ [] → x ≡ y
  same_head x y same = cc

  left_some : (k : EventKind) (o now : Open) (found : Option Open) → found ≡ Some o → left_of k found ≡ now ∷ [] → left_of k (Some o) ≡ now ∷ []
  left_some k o now found is left = subst (λ (f : Option Open). left_of k f ≡ now ∷ []) is left

  pub effect_own : (n : ℕ) (k : EventKind) → IsOf n k → (l : List Open) → Ready k (open_with (number_in k) l) → (now : Open) → left_of k (open_with n l) ≡ now ∷ [] → now.id ≡ n
      → open_with n (effect time k l) ≡ Some now
  effect_own n (event.Request r) is l ready now left number =
      subst (λ (m : ℕ). open_with m (l ++ opened time r ∷ []) ≡ Some now) is (pushed_own (opened time r) l ready.0 ∙ ap Some (same_head (opened time r) now left))
  effect_own n (event.Data p) is l ready now left number =
      subst (λ (m : ℕ). open_with m (changed p.id (λ o. still_open (with_data p o)) l) ≡ Some now) is
      (found_left p.id (λ o. still_open (with_data p o)) l ready.request now ready.is
      (left_some (event.Data p) ready.request now (open_with n l) (ap (λ (m : ℕ). open_with m l) (sym is) ∙ ready.is) left) (number ∙ sym is))
  effect_own n (event.Reply c) is l ready now left number =
      subst (λ (m : ℕ). open_with m (changed c.id (λ o. still_open (with_reply c o)) l) ≡ Some now) is
      (found_left c.id (λ o. still_open (with_reply c o)) l ready.request now ready.is
      (left_some (event.Reply c) ready.request now (open_with n l) (ap (λ (m : ℕ). open_with m l) (sym is) ∙ ready.is) left) (number ∙ sym is))
  effect_own n (event.Dropped id) is l ready now left number = cc
  effect_own n (event.Refused id reason) is l ready now left number = absurd is
  effect_own n (event.Word w) is l ready now left number = absurd is
  effect_own n (event.Final w) is l ready now left number = absurd is
  effect_own n (event.Unknown addr len) is l ready now left number = absurd is
  effect_own n event.End is l ready now left number = absurd is

  -- the numbers stay below a bound
  module _ (bound : ℕ) where
    abbrev pub IsBelow : Open → Type 0
    IsBelow o = o.id < bound

    still_below : (o : Open) → o.id < bound → All IsBelow (still_open o)
    still_below o here = by_test (is_some o.access && is_some o.completion)
      where
        by_test : (b : Bool) → All IsBelow (if b then [] else o ∷ [])
        by_test true = All-nil IsBelow
        by_test false = All-cons IsBelow o [] here (All-nil IsBelow)

    pub effect_below : (n : ℕ) (k : EventKind) → IsOf n k → n < bound → (l : List Open) → All IsBelow l → All IsBelow (effect time k l)
    effect_below n (event.Request r) is below l all = All-push IsBelow l (opened time r) all (subst (λ (m : ℕ). m < bound) (sym is) below)
    effect_below n (event.Data p) is below l all = all_kept p.id (λ o. still_open (with_data p o)) IsBelow (λ o here. still_below (with_data p o) here) l all
    effect_below n (event.Reply c) is below l all = all_kept c.id (λ o. still_open (with_reply c o)) IsBelow (λ o here. still_below (with_reply c o) here) l all
    effect_below n (event.Dropped id) is below l all = all_kept id (λ o. []) IsBelow (λ o here. All-nil IsBelow) l all
    effect_below n (event.Refused id reason) is below l all = absurd is
    effect_below n (event.Word w) is below l all = absurd is
    effect_below n (event.Final w) is below l all = absurd is
    effect_below n (event.Unknown addr len) is below l all = absurd is
    effect_below n event.End is below l all = absurd is

  module _ (place : ℕ) (below : place < 2 ^ 61) (tells : ℕ → Option EventKind) (named : (i : ℕ) (k : EventKind) → tells i ≡ Some k → IsOf (number_of place i) k) where
    pub row_others : (a n : ℕ) (other : ℕ) → ((i : ℕ) → a ≤ i → i < a + n → is_some (tells i) ≡ true → other ≡ number_of place i → ⊥) → (l : List Open)
        → open_with other (effects time (row tells a n) l) ≡ open_with other l
    row_others a zero other apart l = refl
    row_others a (suc n) other apart l = by_first (tells a) refl (row_others (a + 1) n other (λ i from to. apart i (omega arith) (omega arith)))
      where
        by_first : (o : Option EventKind) → tells a ≡ o → ((l : List Open) → open_with other (effects time (row tells (a + 1) n) l) ≡ open_with other l)
            → open_with other (effects time (cons_option o (row tells (a + 1) n)) l) ≡ open_with other l
        by_first None is later = later l
        by_first (Some k) is later = later (effect time k l) ∙ effect_others (number_of place a) k (named a k is) other (apart a (omega arith) (omega arith) (ap is_some is)) l

    pub row_ready : (a n : ℕ) → a + n ≤ 8 → (l : List Open)
        → ((i : ℕ) → a ≤ i → i < a + n → (k : EventKind) → tells i ≡ Some k → Ready k (open_with (number_of place i) l)) → AreReady time (row tells a n) l
    row_ready a zero few l ready = tt
    row_ready a (suc n) few l ready = by_first (tells a) refl (row_ready (a + 1) n (omega arith))
      where
        by_first : (o : Option EventKind) → tells a ≡ o
            → ((l : List Open) → ((i : ℕ) → a + 1 ≤ i → i < a + 1 + n → (k : EventKind) → tells i ≡ Some k → Ready k (open_with (number_of place i) l)) → AreReady time (row tells (a + 1) n) l)
            → AreReady time (cons_option o (row tells (a + 1) n)) l
        by_first None is later = later l (λ i from to. ready i (omega arith) (omega arith))
        by_first (Some k) is later = (
          subst (λ (m : ℕ). Ready k (open_with m l)) (sym (number_so (number_of place a) k (named a k is))) (ready a (omega arith) (omega arith) k is),
          later (effect time k l)
              (λ i from to x at. subst (Ready x) (sym (effect_others (number_of place a) k (named a k is) (number_of place i)
              (λ same. operations_apart place i a below (omega arith) (omega arith) (λ e. absurd (omega arith)) same) l)) (ready i (omega arith) (omega arith) x at)),
        )

    module _ (i : ℕ) (k : EventKind) (is : tells i ≡ Some k) (now : Open) (number : now.id ≡ number_of place i) where
      -- an operation's number finds what its event leaves
      abbrev Finds : List EventKind → List Open → Type 0
      Finds ks l = Ready k (open_with (number_of place i) l) → left_of k (open_with (number_of place i) l) ≡ now ∷ [] → open_with (number_of place i) (effects time ks l) ≡ Some now

      pub row_own : (a n : ℕ) → a + n ≤ 8 → a ≤ i → i < a + n → (l : List Open) → Finds (row tells a n) l
      row_own a zero few from to l = absurd (omega arith)
      row_own a (suc n) few from to l = by_first (tells a) refl (cases_eq i a) (λ apart. row_own (a + 1) n (omega arith) (omega arith) (omega arith))
        where
          by_first : (o : Option EventKind) → tells a ≡ o → (i ≡ a) ⊎ (i ≡ a → ⊥) → ((i ≡ a → ⊥) → (l : List Open) → Finds (row tells (a + 1) n) l) → Finds (cons_option o (row tells (a + 1) n)) l
          by_first None at (inl same) later ready left = absurd (none-some k (sym at ∙ (ap tells (sym same) ∙ is)))
          by_first None at (inr apart) later ready left = later apart l ready left
          by_first (Some x) at (inl same) later ready left =
              let kinds = same_Some x k (sym at ∙ (ap tells (sym same) ∙ is)) in
              let own : open_with (number_of place i) (effect time k l) ≡ Some now =
              effect_own (number_of place i) k (named i k is) l (subst (λ (m : ℕ). Ready k (open_with m l)) (sym (number_so (number_of place i) k (named i k is))) ready) now left number in
              row_others (a + 1) n (number_of place i)
              (λ j up down some numbers. operations_apart place i j below (omega arith) (omega arith) (λ e. absurd (omega arith)) numbers) (effect time x l)
              ∙ (ap (λ (y : EventKind). open_with (number_of place i) (effect time y l)) kinds ∙ own)
          by_first (Some x) at (inr apart) later ready left =
              let kept = effect_others (number_of place a) x (named a x at) (number_of place i) (λ same. operations_apart place i a below (omega arith) (omega arith) apart same) l in
              later apart (effect time x l) (subst (Ready k) (sym kept) ready) (ap (left_of k) kept ∙ left)

    pub row_below : (bound a n : ℕ) → ((i : ℕ) → i < a + n → number_of place i < bound) → (l : List Open) → All (IsBelow bound) l → All (IsBelow bound) (effects time (row tells a n) l)
    row_below bound a zero small l all = all
    row_below bound a (suc n) small l all = by_first (tells a) refl (row_below bound (a + 1) n (λ i to. small i (omega arith)))
      where
        by_first : (o : Option EventKind) → tells a ≡ o → ((l : List Open) → All (IsBelow bound) l → All (IsBelow bound) (effects time (row tells (a + 1) n) l))
            → All (IsBelow bound) (effects time (cons_option o (row tells (a + 1) n)) l)
        by_first None is later = later l all
        by_first (Some k) is later = later (effect time k l) (effect_below bound (number_of place a) k (named a k is) (small a (omega arith)) l all)

-- a list of one event for each
pub all_told : (f : ℕ → EventKind) (xs : List ℕ) → map f xs ≡ filter_map (λ i. Some (f i)) xs
all_told f [] = refl
all_told f (x ∷ xs) = ap (λ l. f x ∷ l) (all_told f xs)
