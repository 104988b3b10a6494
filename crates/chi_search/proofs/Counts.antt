-- how far the sums of a run take a counter, and a position that is dead since no sums make what an operation must find
use Rattle.std.proofs.Common.{◌≡◌, ℕ, zero, suc, ◌+◌, ◌-◌, ◌*◌, ◌/◌, ◌%◌, ◌^◌, ◌<◌, ◌≤◌, ◌==◌, ◌⊎◌, ◌&&◌, nat_le, nat_lt, Bool, true, false, cond, List, [], ◌∷◌, All, length, Option, None, Some, MatchOption, refl, sym, ap, subst, ◌∙◌, arith, inl, inr, eqb-true, eq-eqb, le-leb, true≢false}
use Rattle.std.specs.Int.{bit_at}
use Rattle.std.proofs.lemmas.Bool.{cases_lt}
use Rattle.std.proofs.lemmas.Bool.Decides.{nat_tests}
use Rattle.std.proofs.lemmas.List.Elements.{All-cons, All-head, All-tail}
use Rattle.std.proofs.lemmas.Nat.Bits.{bit_at_cat_low}
use Rattle.chi_fields.specs.Access.{Access, IsLawful}
use Rattle.chi_fields.specs.declared.kind.Kind.{Kind}
use Rattle.chi_fields.specs.declared.kind.Kind.TheVariants.{Load, Store}
use Rattle.chi_fields.specs.declared.kind.Op.TheVariants.{Add}
use Rattle.chi_trace.specs.declared.operation.Operation.{Operation}
use Rattle.chi_trace.specs.Explains.{at, is_answered}
use Rattle.chi_trace.specs.Granules.{Fits, next}
use Rattle.chi_trace.proofs.Places.{none}
use Rattle.chi_trace.proofs.Steps.{next-below}
use Rattle.chi_search.specs.declared.counting.Span.{Span}
use Rattle.chi_search.specs.declared.effect.Effect.{Effect}
use Rattle.chi_search.specs.Counters.{AddsOrKeeps, IsBeyond, IsSameOperand, IsSpan, added, added_by, counter_of, counts, down_by, downs, sent_number, sum_below, up_by, ups}
use Rattle.chi_search.specs.Effects.{Agree, HasEffect, IsInOperand, IsSum}
use Rattle.chi_search.specs.Makers.{IsPart, IsRunOf, IsUnmade, LeadsTo, MayPrecede, MayPrecedeEach}
use Rattle.chi_search.specs.Positions.{Position, is_left}
use Rattle.chi_search.specs.Within.{IsDeadWithin, KeepsWithin, StepsTo}
use Rattle.chi_search.proofs.Counters.{counter-below, counter_of_sum, same_counter, same_operand, sent-below}
use Rattle.chi_search.proofs.Reach.{bit_within}
use Rattle.chi_search.proofs.Runs.{dead_found, only_before}
use Rattle.chi_search.proofs.Settling.{left_is}

-- the numbers of a run's operations, together
unfoldable sum_of : (ℕ → ℕ) → List ℕ → ℕ
sum_of f [] = 0
sum_of f (i ∷ run) = f i + sum_of f run

-- the numbers, of which one is 0
abbrev zero_at : ℕ → (ℕ → ℕ) → ℕ → ℕ
zero_at i f j = cond (i == j) 0 (f j)

no_more : (b : Bool) (n : ℕ) → cond b 0 n ≤ n
no_more true n = omega arith
no_more false n = omega arith

-- their sum is no greater
less : (f : ℕ → ℕ) (i n : ℕ) → sum_below (zero_at i f) n ≤ sum_below f n
unfolding sum_below
less f i zero = omega arith
less f i (suc n) = omega (arith, less f i n, no_more (i == n) (f n))

-- it is less by that one
taken_out : (f : ℕ → ℕ) (i n : ℕ) → i < n → f i + sum_below (zero_at i f) n ≤ sum_below f n
unfolding sum_below
taken_out f i zero below = absurd (omega (arith, below))
taken_out f i (suc n) below = by_test (i == n) refl (taken_out f i n)
  where
    by_test : (b : Bool) → (i == n) ≡ b → (i < n → f i + sum_below (zero_at i f) n ≤ sum_below f n)
        → f i + (sum_below (zero_at i f) n + zero_at i f n) ≤ sum_below f n + f n
    by_test true same rest =
        let here : zero_at i f n ≡ 0 = ap (λ b. cond b 0 (f n)) same in
        let this : f i ≡ f n = ap f (eqb-true i n same) in
        omega (arith, here, this, less f i n)
    by_test false other rest =
        let apart : i ≡ n → ⊥ = λ same. true≢false (sym (eq-eqb i n same) ∙ other) in
        let here : zero_at i f n ≡ f n = ap (λ b. cond b 0 (f n)) other in
        let earlier : i < n = elim (cases_lt i n) [
          | inl is ↦ is
          | inr past ↦ absurd (apart (omega (arith, below, past)))
        ] in
        omega (arith, here, rest earlier)

-- a run without it has the same numbers
same_without : (f : ℕ → ℕ) (i : ℕ) (ops : List Operation) (run : List ℕ) → All (λ j. MayPrecede ops j (Some i)) run → sum_of (zero_at i f) run ≡ sum_of f run
unfolding sum_of
same_without f i ops [] before = refl
same_without f i ops (j ∷ run) before =
    let apart : j ≡ i → ⊥ = (All-head (λ j. MayPrecede ops j (Some i)) j run before).0 in
    let rest = same_without f i ops run (All-tail (λ j. MayPrecede ops j (Some i)) j run before) in
    by_test (i == j) refl apart rest
  where
    by_test : (b : Bool) → (i == j) ≡ b → (j ≡ i → ⊥) → sum_of (zero_at i f) run ≡ sum_of f run → zero_at i f j + sum_of (zero_at i f) run ≡ f j + sum_of f run
    by_test true same apart rest = absurd (apart (sym (eqb-true i j same)))
    by_test false other apart rest = let here : zero_at i f j ≡ f j = ap (λ b. cond b 0 (f j)) other in omega (arith, here, rest)

-- a run has no operation twice, so its numbers are no more than those of all
run_within : (ops : List Operation) (p : Position) (run : List ℕ) (f : ℕ → ℕ) → IsRunOf ops (is_left (length ops) p) run → sum_of f run ≤ sum_below f (length ops)
unfolding sum_of IsRunOf
run_within ops p [] f is = omega arith
run_within ops p (i ∷ run) f is =
    omega (
      arith,
      same_without f i ops run is.1,
      run_within ops p run (zero_at i f) is.2,
      taken_out f i (length ops) (left_is (length ops) p i is.0).0,
    )

-- a multiple of a number
abbrev IsMultiple : ℕ → ℕ → Type 0
IsMultiple limit n = (k : ℕ) × (n ≡ k * limit)

-- of two multiples the greater one is greater by the number at least
apart : (limit a b : ℕ) → IsMultiple limit a → IsMultiple limit b → a < b → a + limit ≤ b
apart limit a b (k, is_a) (l, is_b) less = elim (cases_lt k l) [
  | inl before ↦ up (l - k) (omega (arith, before))
  | inr past ↦ absurd (down (k - l) (omega (arith, past)))
]
  where
    up : (d : ℕ) → l ≡ k + d × (0 < d) → a + limit ≤ b
    up zero is = absurd (omega (arith, is.1))
    up (suc d) is =
        let number : b ≡ k * limit + (limit + d * limit) = is_b ∙ ap (λ n. n * limit) is.0 ∙ omega arith in
        omega (arith, is_a, number)

    down : (d : ℕ) → k ≡ l + d → ⊥
    down d is =
        let number : a ≡ l * limit + d * limit = is_a ∙ ap (λ n. n * limit) is ∙ omega arith in
        omega (arith, number, is_b, less)

-- a counter that goes up and down by so much, where after the greatest number comes 0
record Shifts (limit from to up down : ℕ) : Type 0 where
  over : ℕ
  under : ℕ
  is_over : IsMultiple limit over
  is_under : IsMultiple limit under
  same : to + down + over ≡ from + up + under

-- it does not come beyond
not_beyond : (limit from to up down : ℕ) (span : Span) → Shifts limit from to up down → up ≤ span.up → down ≤ span.down → IsBeyond span from to limit → ⊥
not_beyond limit from to up down span shifts up_within down_within (inl (low, far, back)) =
    let less : shifts.over < shifts.under = omega (arith, shifts.same, low, far, up_within) in
    omega (arith, apart limit shifts.over shifts.under shifts.is_over shifts.is_under less, shifts.same, low, back, down_within)
not_beyond limit from to up down span shifts up_within down_within (inr (high, far, back)) =
    let less : shifts.under < shifts.over = omega (arith, shifts.same, high, far, down_within) in
    omega (arith, apart limit shifts.under shifts.over shifts.is_under shifts.is_over less, shifts.same, high, back, up_within)

-- a multiple more
one_more : (limit n : ℕ) → IsMultiple limit n → IsMultiple limit (n + limit)
one_more limit n (k, is) = (suc k, omega (arith, is))

both_more : (limit m n : ℕ) → IsMultiple limit m → IsMultiple limit n → IsMultiple limit (m + n)
both_more limit m n (k, is_m) (l, is_n) = (k + l, omega (arith, is_m, is_n))

-- a number that is added takes it up, or down to what is left to the next power
shifted : (len from c n up down : ℕ) → n < 256 ^ len → Shifts (256 ^ len) from c up down
    → Shifts (256 ^ len) from ((c + n) % 256 ^ len) (up_by len (Some n) + up) (down_by len (Some n) + down)
shifted len from c n up down below shifts = by_half (nat_lt (2 * n) (256 ^ len)) refl
  where
    limit : ℕ
    limit = 256 ^ len

    whole : c + n ≡ (c + n) / limit * limit + (c + n) % limit
    whole = omega arith

    over : ℕ
    over = shifts.over + (c + n) / limit * limit

    is_over : IsMultiple limit over
    is_over = both_more limit shifts.over ((c + n) / limit * limit) shifts.is_over ((c + n) / limit, refl)

    by_half : (b : Bool) → nat_lt (2 * n) limit ≡ b → Shifts limit from ((c + n) % limit) (up_by len (Some n) + up) (down_by len (Some n) + down)
    by_half true lower =
        let ups : up_by len (Some n) ≡ n = ap (λ b. cond b n 0) lower in
        let downs : down_by len (Some n) ≡ 0 = ap (λ b. cond b 0 (limit - n)) lower in
        record { over = over; under = shifts.under; is_over = is_over; is_under = shifts.is_under; same = omega (arith, whole, ups, downs, shifts.same) }
    by_half false upper =
        let ups : up_by len (Some n) ≡ 0 = ap (λ b. cond b n 0) upper in
        let downs : down_by len (Some n) ≡ limit - n = ap (λ b. cond b 0 (limit - n)) upper in
        record {
          over = over;
          under = shifts.under + limit;
          is_over = is_over;
          is_under = one_more limit shifts.under shifts.is_under;
          same = omega (arith, whole, ups, downs, shifts.same, below);
        }

-- An operand that is only added to, or kept, by what is left and starts by a time.
module _ (ops : List Operation) (p : Position) (until : ℕ) (o : Access) (bits mask : ℕ) (span : Span) (lawful : IsLawful o)
    (operand : (k : ℕ) → IsInOperand o k → bit_at bits k ≡ 1) (within : IsPart bits mask) (mask_below : mask < 2 ^ 64) (word : p.word < 2 ^ 64)
    (is : IsSpan ops p until o bits (length ops) span) where
  abbrev pub limit : ℕ
  limit = 256 ^ o.len

  abbrev pub start : ℕ
  start = counter_of o p.word

  -- words that agree in the bits have the same counter
  same_in : (v w : ℕ) → v < 2 ^ 64 → w < 2 ^ 64 → Agree bits v w → counter_of o v ≡ counter_of o w
  same_in v w v_below w_below agree = same_counter o lawful v w v_below w_below (λ k inside. agree k (operand k inside))

  -- a sum takes the counter as far as it adds
  summed : (op : Operation) (t u w up down : ℕ) → IsSum op.access.kind → IsLawful op.access × IsSameOperand op.access o → (steps : StepsTo mask op t u)
      → w < 2 ^ 64 → Agree mask u w → Shifts limit start (counter_of o steps.word) up down
      → Shifts limit start (counter_of o w) (up_by o.len (Some (sent_number op.access)) + up) (down_by o.len (Some (sent_number op.access)) + down)
  summed op t u w up down sum (of_op, (addr, len, endian)) steps below agree shifts =
      subst (λ c. Shifts limit start c (up_by o.len (Some n) + up) (down_by o.len (Some n) + down)) (sym left)
      (shifted o.len start (counter_of o steps.word) n up down n_below shifts)
    where
      n : ℕ
      n = sent_number op.access

      n_below : n < 256 ^ o.len
      n_below = subst (λ l. n < 256 ^ l) len (sent-below op.access of_op)

      left : counter_of o w ≡ (counter_of o steps.word + n) % 256 ^ o.len
      left =
          same_in w (next op steps.word) below (next-below op steps.word of_op)
          (λ k one. sym (agree k (within k one)) ∙ steps.leaves k (within k one))
          ∙ sym (same_operand op.access o (next op steps.word) addr len endian)
          ∙ counter_of_sum op of_op sum steps.word steps.below
          ∙ ap (λ l. (counter_of op.access steps.word + n) % 256 ^ l) len
          ∙ ap (λ c. (c + n) % 256 ^ o.len) (same_operand op.access o steps.word addr len endian)

  -- another one keeps it
  kept : (op : Operation) (t u w up down : ℕ) → KeepsWithin bits op → (steps : StepsTo mask op t u) → w < 2 ^ 64 → Agree mask u w
      → Shifts limit start (counter_of o steps.word) up down → Shifts limit start (counter_of o w) (0 + up) (0 + down)
  kept op t u w up down keeps steps below agree shifts =
      let same : counter_of o w ≡ counter_of o steps.word = same_in w steps.word below steps.below (λ k one.
      sym (agree k (within k one)) ∙ steps.leaves k (within k one) ∙ keeps steps.word steps.below steps.fits k one) in
      record { over = shifts.over; under = shifts.under; is_over = shifts.is_over; is_under = shifts.is_under; same = omega (arith, same, shifts.same) }

  by_kind : (op : Operation) (t u w up down : ℕ) (kind : Kind) → op.access.kind ≡ kind
      → MatchOption (added_by kind (sent_number op.access)) (KeepsWithin bits op) (λ n. IsLawful op.access × IsSameOperand op.access o)
      → (steps : StepsTo mask op t u) → w < 2 ^ 64 → Agree mask u w → Shifts limit start (counter_of o steps.word) up down
      → Shifts limit start (counter_of o w) (up_by o.len (added_by kind (sent_number op.access)) + up) (down_by o.len (added_by kind (sent_number op.access)) + down)
  by_kind op t u w up down (Store Add) same adds steps below agree shifts =
      summed op t u w up down (subst IsSum (sym same) tt) adds steps below agree shifts
  by_kind op t u w up down (Load Add) same adds steps below agree shifts =
      summed op t u w up down (subst IsSum (sym same) tt) adds steps below agree shifts
  by_kind op t u w up down kind same keeps steps below agree shifts = kept op t u w up down keeps steps below agree shifts

  -- the operations of a run take it as far as they add together
  shift : (run : List ℕ) (u w : ℕ) → IsRunOf ops (is_left (length ops) p) run → All (λ i. counts ops p until i ≡ true) run → LeadsTo mask ops p.word run u
      → w < 2 ^ 64 → Agree mask u w → Shifts limit start (counter_of o w) (sum_of (ups ops p until o.len) run) (sum_of (downs ops p until o.len) run)
  unfolding IsRunOf LeadsTo sum_of
  shift [] u w run counted leads below agree =
      let same : counter_of o w ≡ start = same_in w p.word below word (λ k one. sym (agree k (within k one)) ∙ sym (leads k (within k one))) in
      record { over = 0; under = 0; is_over = (0, omega arith); is_under = (0, omega arith); same = omega (arith, same) }
  shift (i ∷ run) u w is_run counted (t, leads, steps) below agree =
      subst (λ (b : Bool). Shifts limit start (counter_of o w) (cond b (up_by o.len (added op)) 0 + up) (cond b (down_by o.len (added op)) 0 + down)) (sym first)
      (by_kind op t u w up down op.access.kind refl (is.each i (left_is (length ops) p i is_run.0).0 first) steps below agree
      (shift run t steps.word is_run.2 (All-tail (λ i. counts ops p until i ≡ true) i run counted) leads steps.below steps.finds))
    where
      op : Operation
      op = at ops i

      first : counts ops p until i ≡ true
      first = All-head (λ i. counts ops p until i ≡ true) i run counted

      up : ℕ
      up = sum_of (ups ops p until o.len) run

      down : ℕ
      down = sum_of (downs ops p until o.len) run

  -- each of a run that stands before an operation that ends by the time counts
  each_counts : (y : ℕ) → (at ops y).end ≤ until → (run : List ℕ) → IsRunOf ops (is_left (length ops) p) run
      → All (λ j. MayPrecedeEach ops j (only_before (Some y))) run → All (λ i. counts ops p until i ≡ true) run
  unfolding IsRunOf
  each_counts y ends [] is_run before = none (λ i. counts ops p until i ≡ true)
  each_counts y ends (i ∷ run) is_run before =
      let first = All-head (λ j. MayPrecedeEach ops j (only_before (Some y))) i run before in
      let early : (at ops i).start ≤ until = omega (arith, first.0.1, ends) in
      All-cons (λ i. counts ops p until i ≡ true) i run (ap (λ b. b && nat_le (at ops i).start until) is_run.0 ∙ le-leb (at ops i).start until early)
      (each_counts y ends run is_run.2 (All-tail (λ j. MayPrecedeEach ops j (only_before (Some y))) i run before))

  -- no run leads to a number that is beyond
  unreached : (y found : ℕ) → (at ops y).end ≤ until → found < 2 ^ 64 → IsBeyond span start (counter_of o found) limit
      → IsUnmade mask ops p (only_before (Some y)) found bits
  unreached y found ends below beyond run u is_run before leads agree =
      not_beyond limit start (counter_of o found) (sum_of (ups ops p until o.len) run) (sum_of (downs ops p until o.len) run) span
      (subst (λ c. Shifts limit start c (sum_of (ups ops p until o.len) run) (sum_of (downs ops p until o.len) run)) same
      (shift run u w is_run (each_counts y ends run is_run before) leads w_below (λ k one. low k one)))
      (omega (arith, run_within ops p run (ups ops p until o.len) is_run, is.up))
      (omega (arith, run_within ops p run (downs ops p until o.len) is_run, is.down)) beyond
    where
      w : ℕ
      w = u % 2 ^ 64

      w_below : w < 2 ^ 64
      w_below = omega arith

      low : (k : ℕ) → bit_at mask k ≡ 1 → bit_at u k ≡ bit_at w k
      low k one =
          let whole : u ≡ u / 2 ^ 64 * 2 ^ 64 + w = omega arith in
          ap (λ n. bit_at n k) whole ∙ bit_at_cat_low (u / 2 ^ 64) 64 w k (bit_within mask k mask_below one)

      same : counter_of o w ≡ counter_of o found
      same = same_in w found w_below below (λ k one. sym (low k (within k one)) ∙ sym (agree k one))

  -- a position is dead where an operation that is left must find one
  pub miscounted : (final_word : Option ℕ) (y : ℕ) (e : Effect) → HasEffect (at ops y) e → e.found < 2 ^ 64 → IsPart bits e.found_mask
      → is_left (length ops) p y ≡ true → is_answered (at ops y) ≡ true → (at ops y).end ≤ until → IsBeyond span start (counter_of o e.found) limit
      → IsDeadWithin mask ops final_word p
  miscounted final_word y e has below part left answered ends beyond =
      dead_found mask bits e.found ops final_word p y within left answered (λ w w_below fits k one. has.finds w w_below fits k (part k one))
      (unreached y e.found ends below beyond)
