-- how many operations are open, one more at a time
use Rattle.std.proofs.Common.{◌≡◌, ℕ, zero, suc, ◌+◌, ◌<◌, ◌≤◌, ◌⊎◌, inl, inr, max, nat_le, Bool, true, false, ◌&&◌, cond, List, [], ◌∷◌, ◌++◌, All, filter, get_or, length, map, take, refl, sym, ap, subst, ◌∙◌, arith, leb-true, length-append, true≢false}
use Rattle.std.proofs.Math.Nat.{eq-or-lt_of_le}
use Rattle.std.proofs.lemmas.Bool.{le-leb, lt-leb}
use Rattle.std.proofs.lemmas.List.{map-append, take_more}
use Rattle.std.proofs.lemmas.List.Elements.{All-cons, All-contains, All-head, All-nil, All-push, All-tail, Contains-push, filter-append}
use Rattle.std.proofs.lemmas.List.Recursion.{max_bounds, max_least, max_push}
use Rattle.chi_trace.specs.declared.operation.Operation.{Operation}
use Rattle.chi_trace.specs.Explains.{IsTrace}
use Rattle.chi_verdict.specs.Open.{count_open, greatest, is_open, most_at_once}
use Rattle.chi_trace.proofs.Traced.{all_observed}

-- the ends of operations
abbrev pub ends_of : List Operation → List ℕ
ends_of ops = map (λ op. op.end) ops

-- those that started by a time are open at it where they end no earlier
pub count_open-started : (time : ℕ) (ops : List Operation) → All (λ op. op.start ≤ time) ops → count_open ops time ≡ length (filter (nat_le time) (ends_of ops))
count_open-started time [] all = refl
count_open-started time (op ∷ ops) all =
    by_tests (nat_le op.start time) (nat_le time op.end) (le-leb op.start time (All-head (λ (o : Operation). o.start ≤ time) op ops all))
    (count_open-started time ops (All-tail (λ (o : Operation). o.start ≤ time) op ops all))
  where
    by_tests : (s e : Bool) → s ≡ true → count_open ops time ≡ length (filter (nat_le time) (ends_of ops))
        → length (cond (s && e) (op ∷ filter (is_open time) ops) (filter (is_open time) ops))
        ≡ length (cond e (op.end ∷ filter (nat_le time) (ends_of ops)) (filter (nat_le time) (ends_of ops)))
    by_tests true true is rest = ap suc rest
    by_tests true false is rest = rest
    by_tests false e is rest = absurd (true≢false (sym is))

-- a later test of what an earlier one left
pub filter_later : (before time : ℕ) (ends : List ℕ) → before ≤ time → filter (nat_le time) (filter (nat_le before) ends) ≡ filter (nat_le time) ends
filter_later before time [] le = refl
filter_later before time (end ∷ ends) le = by_tests (nat_le before end) refl (nat_le time end) refl (filter_later before time ends le)
  where
    by_tests : (b : Bool) → nat_le before end ≡ b → (t : Bool) → nat_le time end ≡ t → filter (nat_le time) (filter (nat_le before) ends) ≡ filter (nat_le time) ends
        → filter (nat_le time) (cond b (end ∷ filter (nat_le before) ends) (filter (nat_le before) ends)) ≡ cond t (end ∷ filter (nat_le time) ends) (filter (nat_le time) ends)
    by_tests true is true later rest = rw later (ap (λ l. end ∷ l) rest)
    by_tests true is false later rest = rw later rest
    by_tests false is true later rest =
        let before_end : before ≤ end = omega (arith, le, leb-true time end later) in
        absurd (true≢false (sym (le-leb before end before_end) ∙ is))
    by_tests false is false later rest = rest

-- one operation more is open at a time or not
count_open-more : (time : ℕ) (ops : List Operation) (op : Operation) → count_open (ops ++ op ∷ []) time ≡ count_open ops time + length (filter (is_open time) (op ∷ []))
count_open-more time ops op =
    ap length (filter-append (is_open time) ops (op ∷ [])) ∙ length-append (filter (is_open time) ops) (filter (is_open time) (op ∷ []))

-- and it is not before it starts
count_open-before : (time : ℕ) (ops : List Operation) (op : Operation) → time < op.start → count_open (ops ++ op ∷ []) time ≡ count_open ops time
count_open-before time ops op before =
    let none : length (filter (is_open time) (op ∷ [])) ≡ 0 = by_test (nat_le op.start time) (lt-leb op.start time before) in
    omega (arith, count_open-more time ops op, none)
  where
    by_test : (s : Bool) → s ≡ false → length (cond (s && nat_le time op.end) (op ∷ []) []) ≡ 0
    by_test true is = absurd (true≢false is)
    by_test false is = refl

-- the greatest number of some operations that were open when one of others started
abbrev most_among : List Operation → List Operation → ℕ
most_among ops walked = greatest (map (λ op. count_open ops op.start) walked)

-- one operation more, which starts no earlier
pub most_at_once-more : (ops : List Operation) (op : Operation) → All (λ o. o.start ≤ op.start) ops
    → most_at_once (ops ++ op ∷ []) ≡ max (most_at_once ops) (count_open (ops ++ op ∷ []) op.start)
unfolding greatest
most_at_once-more ops op starts = let whole = pushed in omega (arith, whole, fewer, no_more)
  where
    after : List Operation
    after = ops ++ op ∷ []

    counted : List Operation → Operation → ℕ
    counted l o = count_open l o.start

    pushed : most_at_once after ≡ max (most_among after ops) (counted after op)
    pushed = max_push (most_among after) (counted after) refl (λ o l. refl) ops op

    fewer : most_at_once ops ≤ most_among after ops
    fewer = max_least (most_among ops) (counted ops) refl (λ o l. refl) ops op (most_among after ops)
        (λ i below.
        let bound = max_bounds (most_among after) (counted after) refl (λ o l. refl) ops i op below in
        let more = count_open-more (get_or ops i op).start ops op in
        omega (arith, bound, more))

    no_more : most_among after ops ≤ max (most_at_once ops) (counted after op)
    no_more = max_least (most_among after) (counted after) refl (λ o l. refl) ops op (max (most_at_once ops) (counted after op))
        (λ i below. by_order i below (eq-or-lt_of_le (starts i op below)))
      where
        by_order : (i : ℕ) → i < length ops → ((get_or ops i op).start ≡ op.start) ⊎ ((get_or ops i op).start < op.start)
            → counted after (get_or ops i op) ≤ max (most_at_once ops) (counted after op)
        by_order i below (inl same) = let equal : counted after (get_or ops i op) ≡ counted after op = ap (count_open after) same in omega (arith, equal)
        by_order i below (inr earlier) =
            let bound = max_bounds (most_among ops) (counted ops) refl (λ o l. refl) ops i op below in
            let equal = count_open-before (get_or ops i op).start ops op earlier in
            omega (arith, bound, equal)

-- The ends that are kept of operations: whichever time no operation starts after, those that are not before it are the ends of
-- those that had not ended before it.
abbrev pub KeepsEnds : List Operation → List ℕ → Type 0
KeepsEnds ops ends = (time : ℕ) → All (λ op. op.start ≤ time) ops → filter (nat_le time) ends ≡ filter (nat_le time) (ends_of ops)

module _ (ops : List Operation) (op : Operation) (ends : List ℕ) (keeps : KeepsEnds ops ends) (starts : All (λ o. o.start ≤ op.start) ops) where
  -- those that are kept of one operation more
  kept-more : KeepsEnds (ops ++ op ∷ []) (filter (nat_le op.start) ends ++ op.end ∷ [])
  kept-more time all =
      let later : op.start ≤ time = All-contains (λ (o : Operation). o.start ≤ time) (ops ++ op ∷ []) op all (Contains-push ops op) in
      let last : List ℕ = filter (nat_le time) (op.end ∷ []) in
      filter-append (nat_le time) (filter (nat_le op.start) ends) (op.end ∷ [])
      ∙ (ap (λ l. filter (nat_le time) l ++ last) (keeps op.start starts)
      ∙ (ap (λ l. l ++ last) (filter_later op.start time (ends_of ops) later)
      ∙ (sym (filter-append (nat_le time) (ends_of ops) (op.end ∷ []))
      ∙ sym (ap (filter (nat_le time)) (map-append (λ (o : Operation). o.end) ops (op ∷ []))))))

  -- it is as many as are open when that one starts
  length_kept : op.start ≤ op.end → length (filter (nat_le op.start) ends ++ op.end ∷ []) ≡ count_open (ops ++ op ∷ []) op.start
  length_kept lasting =
      let all : All (λ (o : Operation). o.start ≤ op.start) (ops ++ op ∷ []) = All-push (λ (o : Operation). o.start ≤ op.start) ops op starts (omega arith) in
      let last : filter (nat_le op.start) (op.end ∷ []) ≡ op.end ∷ [] = ap (λ b. cond b (op.end ∷ []) []) (le-leb op.start op.end lasting) in
      sym (count_open-started op.start (ops ++ op ∷ []) all
      ∙ ap length (ap (filter (nat_le op.start)) (map-append (λ (o : Operation). o.end) ops (op ∷ []))
      ∙ (filter-append (nat_le op.start) (ends_of ops) (op.end ∷ [])
      ∙ (ap (λ l. filter (nat_le op.start) (ends_of ops) ++ l) last
      ∙ sym (ap (λ l. l ++ op.end ∷ []) (keeps op.start starts))))))

-- no operation starts after those behind it
starts_before : (ops : List Operation) (k : ℕ) (d : Operation) → IsTrace ops → k < length ops → All (λ o. o.start ≤ (get_or ops k d).start) (take k ops)
unfolding IsTrace
starts_before [] k d is below = absurd (omega arith)
starts_before (op ∷ ops) zero d is below = All-nil (λ o. o.start ≤ op.start)
starts_before (op ∷ ops) (suc k) d is below =
    let rest : k < length ops = omega arith in
    All-cons (λ o. o.start ≤ (get_or ops k d).start) op (take k ops) (is.1 k d rest) (starts_before ops k d is.2 rest)

-- the walk goes on by one operation
pub most_more : (ops : List Operation) (k : ℕ) (op : Operation) (most next : ℕ) (ends after : List ℕ) → IsTrace ops → k < length ops → op ≡ get_or ops k op
    → most ≡ most_at_once (take k ops) → KeepsEnds (take k ops) ends → after ≡ filter (nat_le op.start) ends ++ op.end ∷ [] → next ≡ max most (length after)
    → (next ≡ most_at_once (take (k + 1) ops)) × KeepsEnds (take (k + 1) ops) after
most_more ops k op most next ends after is below read so_far keeps kept greater = (
  greater ∙ (ap (λ n. max n (length after)) so_far ∙ (ap (λ n. max (most_at_once before) n) counted ∙ (sym (most_at_once-more before op starts) ∙ sym (ap most_at_once more)))),
  subst (λ l. KeepsEnds l after) (sym more) (subst (KeepsEnds (before ++ op ∷ [])) (sym kept) (kept-more before op ends keeps starts)),
)
  where
    before : List Operation
    before = take k ops

    more : take (k + 1) ops ≡ before ++ op ∷ []
    more = take_more ops k op below ∙ ap (λ o. before ++ o ∷ []) (sym read)

    starts : All (λ o. o.start ≤ op.start) before
    starts = subst (λ (o : Operation). All (λ (other : Operation). other.start ≤ o.start) before) (sym read) (starts_before ops k op is below)

    lasting : op.start ≤ op.end
    lasting = subst (λ (o : Operation). o.start ≤ o.end) (sym read) (all_observed ops is k op below).lasting

    counted : length after ≡ count_open (before ++ op ∷ []) op.start
    counted = ap length kept ∙ length_kept before op ends keeps starts lasting
