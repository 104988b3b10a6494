-- what had happened by a time, of operations in any order
use Rattle.std.proofs.Common.{◌≡◌, ℕ, ◌<◌, ◌≤◌, nat_le, Bool, true, false, cond, zero, suc, List, [], ◌∷◌, ◌++◌, All, None, get_or, length, map, refl, sym, ap, subst, ◌∙◌, arith, true≢false}
use Rattle.std.specs.List.{filter}
use Rattle.std.proofs.lemmas.Bool.{le-leb, leb-false, leb-true, lt-leb}
use Rattle.std.proofs.lemmas.List.{map-append}
use Rattle.std.proofs.lemmas.List.Elements.{All-cons, All-head, All-nil, All-tail, filter-append}
use Rattle.chi_trace.specs.declared.operation.Operation.{Operation}
use Rattle.chi_trace.specs.Cuts.{cut, has_started, operation_at}
use Rattle.chi_trace.specs.Explains.{at}
use Rattle.chi_search.specs.Frontiers.{CanBeTold, FrontierValue, MayBeTold}
use Rattle.chi_search.specs.Searchable.{AreSorted}
use Rattle.chi_search.proofs.Telling.{sorted_after, sorted_one}
use Rattle.chi_judge.specs.Judges.{LiesWithin}

pub cut-append : (time : ℕ) (a b : List Operation) → cut time (a ++ b) ≡ cut time a ++ cut time b
cut-append time a b = ap (map (operation_at time)) (filter-append (has_started time) a b) ∙ map-append (operation_at time) (filter (has_started time) a) (filter (has_started time) b)

-- it started no earlier than it ended, and ended by a time
abbrev pub EndedBy : ℕ → Operation → Type 0
EndedBy time op = (op.start ≤ op.end) × (op.end ≤ time)

-- all is known of those that had ended
pub cut_whole : (time : ℕ) (ops : List Operation) → All (EndedBy time) ops → cut time ops ≡ ops
cut_whole time [] all = refl
cut_whole time (op ∷ ops) all =
    let first = All-head (EndedBy time) op ops all in
    let started : nat_le op.start time ≡ true = le-leb op.start time (omega (arith, first.0, first.1)) in
    let ended : nat_le op.end time ≡ true = le-leb op.end time first.1 in
    by_tests (nat_le op.start time) (nat_le op.end time) started ended (cut_whole time ops (All-tail (EndedBy time) op ops all))
  where
    by_tests : (s e : Bool) → s ≡ true → e ≡ true → cut time ops ≡ ops
        → map (operation_at time) (cond s (op ∷ filter (has_started time) ops) (filter (has_started time) ops)) ≡ op ∷ ops
    by_tests true e s_is e_is rest = by_end (nat_le op.end time) (le-leb op.end time (All-head (EndedBy time) op ops all).1)
      where
        by_end : (b : Bool) → nat_le op.end time ≡ true → operation_at time op ∷ cut time ops ≡ op ∷ ops
        by_end b is = ap (λ (o : Operation). o ∷ cut time ops) (ap (λ (t : Bool). cond t op (record op { reply = None })) is) ∙ ap (λ (l : List Operation). op ∷ l) rest
    by_tests false e s_is e_is rest = absurd (true≢false (sym s_is))

-- and nothing of those that start later
pub cut_later : (time : ℕ) (ops : List Operation) → All (λ op. time < op.start) ops → cut time ops ≡ []
cut_later time [] all = refl
cut_later time (op ∷ ops) all =
    by_test (nat_le op.start time) (lt-leb op.start time (All-head (λ (o : Operation). time < o.start) op ops all))
    (cut_later time ops (All-tail (λ (o : Operation). time < o.start) op ops all))
  where
    by_test : (s : Bool) → s ≡ false → cut time ops ≡ []
        → map (operation_at time) (cond s (op ∷ filter (has_started time) ops) (filter (has_started time) ops)) ≡ []
    by_test true is rest = absurd (true≢false is)
    by_test false is rest = rest

-- what holds of each operation, whatever is known of its reply, holds of each in a cut
pub All-cut : (P : Operation → Type 0) → ((time : ℕ) (op : Operation) → P op → P (operation_at time op)) → (time : ℕ) (ops : List Operation) → All P ops → All P (cut time ops)
All-cut P stays time [] all = All-nil P
All-cut P stays time (op ∷ ops) all =
    by_test (has_started time op) (stays time op (All-head P op ops all)) (All-cut P stays time ops (All-tail P op ops all))
  where
    by_test : (s : Bool) → P (operation_at time op) → All P (cut time ops) → All P (map (operation_at time) (cond s (op ∷ filter (has_started time) ops) (filter (has_started time) ops)))
    by_test true first rest = All-cons P (operation_at time op) (cut time ops) first rest
    by_test false first rest = rest

-- a fact that speaks of no reply stays
pub stays_known : (P : Operation → Type 0) → ((op : Operation) → P op → P (record op { reply = None })) → (time : ℕ) (op : Operation) → P op → P (operation_at time op)
stays_known P without time op is = by_test (nat_le op.end time)
  where
    by_test : (b : Bool) → P (cond b op (record op { reply = None }))
    by_test true = is
    by_test false = without op is

pub cut_within : (time : ℕ) (ops : List Operation) → All LiesWithin ops → All LiesWithin (cut time ops)
cut_within time ops all = All-cut LiesWithin (stays_known LiesWithin (λ op is. is)) time ops all

-- operations after the first stand in the order of their ends too
pub sorted_tail : (op : Operation) (ops : List Operation) → AreSorted (op ∷ ops) → AreSorted ops
sorted_tail op ops sorted = (λ i j from below. sorted.0 (suc i) (suc j) (omega (arith, from)) (omega (arith, below)), All-tail (λ (o : Operation). o.start ≤ o.end) op ops sorted.1)

-- and end no earlier than it
pub ends_after : (op : Operation) (ops : List Operation) → AreSorted (op ∷ ops) → All (λ o. op.end ≤ o.end) ops
ends_after op ops sorted k d below = subst (λ (o : Operation). op.end ≤ o.end) (same ops k d below) (sorted.0 0 (suc k) (omega arith) (omega (arith, below)))
  where
    same : (l : List Operation) (k : ℕ) (d : Operation) → k < length l → at l k ≡ get_or l k d
    same [] k d below = absurd (omega arith)
    same (o ∷ l) zero d below = refl
    same (o ∷ l) (suc k) d below = same l k d (omega arith)

pub cut_sorted : (time : ℕ) (ops : List Operation) → AreSorted ops → AreSorted (cut time ops)
cut_sorted time [] sorted = sorted
cut_sorted time (op ∷ ops) sorted = by_test (has_started time op) (cut_sorted time ops (sorted_tail op ops sorted))
  where
    lasting : (operation_at time op).start ≤ (operation_at time op).end
    lasting = stays_known (λ o. o.start ≤ o.end) (λ o is. is) time op (All-head (λ (o : Operation). o.start ≤ o.end) op ops sorted.1)

    no_later : (operation_at time op).end ≤ op.end
    no_later = stays_known (λ o. o.end ≤ op.end) (λ o is. is) time op (omega arith)

    by_test : (s : Bool) → AreSorted (cut time ops) → AreSorted (map (operation_at time) (cond s (op ∷ filter (has_started time) ops) (filter (has_started time) ops)))
    by_test true rest = sorted_after (operation_at time op ∷ []) (cut time ops) op.end (sorted_one (operation_at time op) lasting) rest
        (All-cons (λ (o : Operation). o.end ≤ op.end) (operation_at time op) [] no_later (All-nil (λ (o : Operation). o.end ≤ op.end)))
        (All-cut (λ o. op.end ≤ o.end) (stays_known (λ o. op.end ≤ o.end) (λ o is. is)) time ops (ends_after op ops sorted))
    by_test false rest = rest

-- what may be told may be told as it was known by a time
pub cut_told : (f : FrontierValue) (time : ℕ) (ops : List Operation) → MayBeTold f ops → MayBeTold f (cut time ops)
cut_told f time ops may = record {
  sorted = cut_sorted time ops may.sorted;
  each = All-cut (CanBeTold f) (stays_known (CanBeTold f) (λ op c. record { lasting = c.lasting; starts = c.starts; ends = c.ends })) time ops may.each;
}

-- what was known of an operation at a time says what was known before
known_again : (early late : ℕ) (op : Operation) → early ≤ late → operation_at early (operation_at late op) ≡ operation_at early op
known_again early late op le = by_late (nat_le op.end late) refl
  where
    by_late : (b : Bool) → nat_le op.end late ≡ b → operation_at early (cond b op (record op { reply = None })) ≡ operation_at early op
    by_late true ended = refl
    by_late false later = by_early (nat_le op.end early) refl
      where
        by_early : (b : Bool) → nat_le op.end early ≡ b → cond b (record op { reply = None }) (record op { reply = None }) ≡ cond b op (record op { reply = None })
        by_early true ended = absurd (true≢false (sym (le-leb op.end late (let by = leb-true op.end early ended in omega (arith, by, le))) ∙ later))
        by_early false later = refl

started_again : (early late : ℕ) (op : Operation) → has_started early (operation_at late op) ≡ has_started early op
started_again early late op = by_test (nat_le op.end late)
  where
    by_test : (b : Bool) → has_started early (cond b op (record op { reply = None })) ≡ has_started early op
    by_test true = refl
    by_test false = refl

-- what had happened by a time says what had happened before
pub cut_again : (early late : ℕ) → early ≤ late → (ops : List Operation) → cut early (cut late ops) ≡ cut early ops
cut_again early late le [] = refl
cut_again early late le (op ∷ ops) = by_late (has_started late op) refl (cut_again early late le ops)
  where
    both : (b : Bool) → has_started early (operation_at late op) ≡ b → has_started early op ≡ b → cut early (cut late ops) ≡ cut early ops
        → cut early (operation_at late op ∷ cut late ops) ≡ cut early (op ∷ ops)
    both true first second rest =
        ap (λ (c : Bool). map (operation_at early) (cond c (operation_at late op ∷ filter (has_started early) (cut late ops)) (filter (has_started early) (cut late ops)))) first
        ∙ (ap (λ (o : Operation). o ∷ cut early (cut late ops)) (known_again early late op le)
        ∙ (ap (λ (l : List Operation). operation_at early op ∷ l) rest
        ∙ ap (λ (c : Bool). map (operation_at early) (cond c (op ∷ filter (has_started early) ops) (filter (has_started early) ops))) (sym second)))
    both false first second rest =
        ap (λ (c : Bool). map (operation_at early) (cond c (operation_at late op ∷ filter (has_started early) (cut late ops)) (filter (has_started early) (cut late ops)))) first
        ∙ (rest ∙ ap (λ (c : Bool). map (operation_at early) (cond c (op ∷ filter (has_started early) ops) (filter (has_started early) ops))) (sym second))

    by_late : (s : Bool) → has_started late op ≡ s → cut early (cut late ops) ≡ cut early ops
        → cut early (map (operation_at late) (cond s (op ∷ filter (has_started late) ops) (filter (has_started late) ops))) ≡ cut early (op ∷ ops)
    by_late true started rest = both (has_started early op) (started_again early late op) refl rest
    by_late false later rest =
        rest ∙ ap (λ (c : Bool). map (operation_at early) (cond c (op ∷ filter (has_started early) ops) (filter (has_started early) ops)))
        (sym (lt-leb op.start early (let after = leb-false op.start late later in omega (arith, after, le))))
