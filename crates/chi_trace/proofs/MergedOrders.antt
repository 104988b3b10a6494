-- two orders in time woven into one: whichever head starts first comes first
use Rattle.std.proofs.Common.{◌≡◌, ℕ, ◌<◌, ◌≤◌, nat_le, Bool, true, false, cond, List, [], ◌∷◌, All, filter, refl, ap, ◌∙◌, arith}
use Rattle.std.proofs.Math.ListN.{get_or}
use Rattle.std.proofs.lemmas.Bool.{leb-true, leb-false}
use Rattle.std.proofs.lemmas.List.Elements.{All-cons, All-head, All-tail}
use Rattle.chi_trace.specs.declared.operation.Operation.{Operation}
use Rattle.chi_trace.specs.Explains.{IsInTime, at}

-- an order y into the order a ∷ x, where the rest of x takes the rest of y in
unfoldable pub insert : List Operation → ℕ → List ℕ → (List ℕ → List ℕ) → List ℕ → List ℕ
insert ts a x rest [] = a ∷ x
insert ts a x rest (b ∷ y) = cond (nat_le (at ts a).start (at ts b).start) (a ∷ rest (b ∷ y)) (b ∷ insert ts a x rest y)

unfoldable pub merge : List Operation → List ℕ → List ℕ → List ℕ
merge ts [] y = y
merge ts (a ∷ x) y = insert ts a x (merge ts x) y

-- what is true of each place of both is true of each of the whole
all_inserted : (P : ℕ → Type 0) (ts : List Operation) (a : ℕ) (x : List ℕ) (rest : List ℕ → List ℕ) → All P (a ∷ x)
    → ((y : List ℕ) → All P y → All P (rest y)) → (y : List ℕ) → All P y → All P (insert ts a x rest y)
unfolding insert
all_inserted P ts a x rest all each [] h = all
all_inserted P ts a x rest all each (b ∷ y) h =
    by_test (nat_le (at ts a).start (at ts b).start) (all_inserted P ts a x rest all each y (All-tail P b y h))
  where
    by_test : (c : Bool) → All P (insert ts a x rest y) → All P (cond c (a ∷ rest (b ∷ y)) (b ∷ insert ts a x rest y))
    by_test true inner = All-cons P a (rest (b ∷ y)) (All-head P a x all) (each (b ∷ y) h)
    by_test false inner = All-cons P b (insert ts a x rest y) (All-head P b y h) inner

pub all_merged : (P : ℕ → Type 0) (ts : List Operation) (x y : List ℕ) → All P x → All P y → All P (merge ts x y)
unfolding merge
all_merged P ts [] y h k = k
all_merged P ts (a ∷ x) y h k = all_inserted P ts a x (merge ts x) h (λ z all. all_merged P ts x z (All-tail P a x h) all) y k

-- it starts no later than it ends
abbrev pub Lasts : List Operation → ℕ → Type 0
Lasts ts i = (at ts i).start ≤ (at ts i).end

-- what starts no later than the head of an order in time starts no later than each of it ends
from_head : (ts : List Operation) (n b : ℕ) (y : List ℕ) → n ≤ (at ts b).start → Lasts ts b → All (λ j. (at ts b).start ≤ (at ts j).end) y
    → All (λ j. n ≤ (at ts j).end) (b ∷ y)
from_head ts n b y first lasts h = All-cons (λ j. n ≤ (at ts j).end) b y (omega (arith, first, lasts)) rest
  where
    rest : All (λ j. n ≤ (at ts j).end) y
    rest k d under = let later : (at ts b).start ≤ (at ts (get_or y k d)).end = h k d under in omega (arith, first, later)

in_time_inserted : (ts : List Operation) (a : ℕ) (x : List ℕ) (rest : List ℕ → List ℕ) → All (Lasts ts) (a ∷ x) → IsInTime ts (a ∷ x)
    → ((y : List ℕ) → All (Lasts ts) y → IsInTime ts y → IsInTime ts (rest y))
    → ((P : ℕ → Type 0) → All P x → (y : List ℕ) → All P y → All P (rest y))
    → (y : List ℕ) → All (Lasts ts) y → IsInTime ts y → IsInTime ts (insert ts a x rest y)
unfolding insert IsInTime
in_time_inserted ts a x rest lasts h in_time each [] lasting k = h
in_time_inserted ts a x rest lasts h in_time each (b ∷ y) lasting k =
    by_test (nat_le (at ts a).start (at ts b).start) refl
    (in_time_inserted ts a x rest lasts h in_time each y (All-tail (Lasts ts) b y lasting) k.1)
  where
    by_test : (c : Bool) → nat_le (at ts a).start (at ts b).start ≡ c → IsInTime ts (insert ts a x rest y)
        → IsInTime ts (cond c (a ∷ rest (b ∷ y)) (b ∷ insert ts a x rest y))
    by_test true first inner =
        let no_later : (at ts a).start ≤ (at ts b).start = leb-true (at ts a).start (at ts b).start first in (
          each (λ j. (at ts a).start ≤ (at ts j).end) h.0 (b ∷ y) (from_head ts (at ts a).start b y no_later (All-head (Lasts ts) b y lasting) k.0),
          in_time (b ∷ y) lasting k,
        )
    by_test false first inner =
        let later : (at ts b).start < (at ts a).start = leb-false (at ts a).start (at ts b).start first in
        let own : All (λ j. (at ts b).start ≤ (at ts j).end) (a ∷ x) =
        from_head ts (at ts b).start a x (omega (arith, later)) (All-head (Lasts ts) a x lasts) h.0 in (
          all_inserted (λ j. (at ts b).start ≤ (at ts j).end) ts a x rest own
              (λ z all. each (λ j. (at ts b).start ≤ (at ts j).end) (All-tail (λ j. (at ts b).start ≤ (at ts j).end) a x own) z all) y k.0,
          inner,
        )

-- the whole is in time
pub in_time_woven : (ts : List Operation) (x y : List ℕ) → All (Lasts ts) x → IsInTime ts x → All (Lasts ts) y → IsInTime ts y → IsInTime ts (merge ts x y)
unfolding merge IsInTime
in_time_woven ts [] y lasts h lasting k = k
in_time_woven ts (a ∷ x) y lasts h lasting k =
    in_time_inserted ts a x (merge ts x) lasts h (λ z all time. in_time_woven ts x z (All-tail (Lasts ts) a x lasts) h.1 all time)
    (λ P all z more. all_merged P ts x z all more) y lasting k

-- a test that no place passes keeps none
pub none_kept : (p : ℕ → Bool) (x : List ℕ) → All (λ i. p i ≡ false) x → filter p x ≡ []
none_kept p [] h = refl
none_kept p (i ∷ x) h =
    ap (λ b. cond b (i ∷ filter p x) (filter p x)) (All-head (λ j. p j ≡ false) i x h) ∙ none_kept p x (All-tail (λ j. p j ≡ false) i x h)

kept_inserted : (p : ℕ → Bool) (ts : List Operation) (a : ℕ) (x : List ℕ) (rest : List ℕ → List ℕ)
    → ((y : List ℕ) → All (λ i. p i ≡ false) y → filter p (rest y) ≡ filter p x)
    → (y : List ℕ) → All (λ i. p i ≡ false) y → filter p (insert ts a x rest y) ≡ filter p (a ∷ x)
unfolding insert
kept_inserted p ts a x rest each [] h = refl
kept_inserted p ts a x rest each (b ∷ y) h =
    by_test (nat_le (at ts a).start (at ts b).start) (kept_inserted p ts a x rest each y (All-tail (λ i. p i ≡ false) b y h))
  where
    by_test : (c : Bool) → filter p (insert ts a x rest y) ≡ filter p (a ∷ x)
        → filter p (cond c (a ∷ rest (b ∷ y)) (b ∷ insert ts a x rest y)) ≡ filter p (a ∷ x)
    by_test true inner = ap (λ z. cond (p a) (a ∷ z) z) (each (b ∷ y) h)
    by_test false inner = ap (λ c. cond c (b ∷ filter p (insert ts a x rest y)) (filter p (insert ts a x rest y))) (All-head (λ i. p i ≡ false) b y h) ∙ inner

-- a test that none of the second order passes keeps of the whole what it keeps of the first
pub first_kept : (p : ℕ → Bool) (ts : List Operation) (x y : List ℕ) → All (λ i. p i ≡ false) y → filter p (merge ts x y) ≡ filter p x
unfolding merge
first_kept p ts [] y h = none_kept p y h
first_kept p ts (a ∷ x) y h = kept_inserted p ts a x (merge ts x) (λ z all. first_kept p ts x z all) y h

others_inserted : (p : ℕ → Bool) (ts : List Operation) (a : ℕ) (x : List ℕ) (rest : List ℕ → List ℕ) → All (λ i. p i ≡ false) (a ∷ x)
    → ((y : List ℕ) → filter p (rest y) ≡ filter p y) → (y : List ℕ) → filter p (insert ts a x rest y) ≡ filter p y
unfolding insert
others_inserted p ts a x rest h each [] = none_kept p (a ∷ x) h
others_inserted p ts a x rest h each (b ∷ y) =
    by_test (nat_le (at ts a).start (at ts b).start) (others_inserted p ts a x rest h each y)
  where
    by_test : (c : Bool) → filter p (insert ts a x rest y) ≡ filter p y
        → filter p (cond c (a ∷ rest (b ∷ y)) (b ∷ insert ts a x rest y)) ≡ filter p (b ∷ y)
    by_test true inner =
        ap (λ c. cond c (a ∷ filter p (rest (b ∷ y))) (filter p (rest (b ∷ y)))) (All-head (λ i. p i ≡ false) a x h) ∙ each (b ∷ y)
    by_test false inner = ap (λ z. cond (p b) (b ∷ z) z) inner

-- and one that none of the first passes what it keeps of the second
pub second_kept : (p : ℕ → Bool) (ts : List Operation) (x y : List ℕ) → All (λ i. p i ≡ false) x → filter p (merge ts x y) ≡ filter p y
unfolding merge
second_kept p ts [] y h = refl
second_kept p ts (a ∷ x) y h = others_inserted p ts a x (merge ts x) h (λ z. second_kept p ts x z (All-tail (λ i. p i ≡ false) a x h)) y
