-- what explains a granule up to a time, where none of its operations is answered before a later one
use Rattle.std.proofs.Common.{◌≡◌, ℕ, ◌<◌, ◌≤◌, ◌==◌, ◌&&◌, nat_le, Bool, true, false, cond, List, [], All, Option, Some, None, get_or, refl, sym, ap, subst, ◌∙◌, ⊎_elim, arith, true≢false}
use Rattle.std.proofs.lemmas.Bool.{and_from, and_parts, cases_lt, le-leb, leb-false, leb-true, lt-leb}
use Rattle.std.proofs.lemmas.List.{map-id}
use Rattle.chi_lanes.specs.declared.reply.Reply.{Reply}
use Rattle.chi_history.specs.History.{one_if}
use Rattle.chi_trace.specs.declared.operation.Operation.{Operation}
use Rattle.chi_trace.specs.Cuts.{cut, has_started, operation_at}
use Rattle.chi_trace.specs.Explains.{IsInTime, IsTrace, at, is_answered, is_place, times_in}
use Rattle.chi_trace.specs.Granules.{ExplainsGranule, Play, granule_of, is_of}
use Rattle.chi_trace.proofs.Cuts.{cut_shows}
use Rattle.chi_trace.proofs.Moved.{in_time_moved, play_moved}
use Rattle.chi_trace.proofs.Orders.{observed_at}
use Rattle.chi_trace.proofs.Places.{passes}

-- what was known of an operation at a time says its granule
known_granule : (time : ℕ) (op : Operation) → granule_of (operation_at time op) ≡ granule_of op
known_granule time op = by_test (nat_le op.end time)
  where
    by_test : (b : Bool) → granule_of (cond b op (record op { reply = None })) ≡ granule_of op
    by_test true = refl
    by_test false = refl

-- of an operation whose reply was never seen the same is known at all times
known_unanswered : (time : ℕ) (op : Operation) → is_answered op ≡ false → operation_at time op ≡ op
known_unanswered time op unseen = by_test (nat_le op.end time)
  where
    without : (reply : Option Reply) → is_answered (record op { reply = reply }) ≡ false → record op { reply = None } ≡ record op { reply = reply }
    without None _ = refl
    without (Some reply) seen = absurd (true≢false seen)

    by_test : (b : Bool) → cond b op (record op { reply = None }) ≡ op
    by_test true = refl
    by_test false = without op.reply unseen

-- the same is known of an operation at two times where it was answered by both or by neither
known_alike : (early late : ℕ) (op : Operation) → early ≤ late → (is_answered op ≡ true → early < op.end → late < op.end) → operation_at early op ≡ operation_at late op
known_alike early late op le none = by_reply (is_answered op) refl
  where
    by_test : (early < op.end → late < op.end) → (b : Bool) → nat_le op.end early ≡ b → (d : Bool) → nat_le op.end late ≡ d
        → cond b op (record op { reply = None }) ≡ cond d op (record op { reply = None })
    by_test lasts true first true second = refl
    by_test lasts true first false second =
        let ended : op.end ≤ early = leb-true op.end early first in
        let lasted : late < op.end = leb-false op.end late second in
        absurd (omega (arith, ended, lasted))
    by_test lasts false first true second =
        let lasted : late < op.end = lasts (leb-false op.end early first) in
        let ended : op.end ≤ late = leb-true op.end late second in
        absurd (omega (arith, lasted, ended))
    by_test lasts false first false second = refl

    by_reply : (b : Bool) → is_answered op ≡ b → operation_at early op ≡ operation_at late op
    by_reply true seen = by_test (none seen) (nat_le op.end early) refl (nat_le op.end late) refl
    by_reply false unseen = known_unanswered early op unseen ∙ sym (known_unanswered late op unseen)

-- an operation of a granule stands in a cut where it had started, as it was known then
pub own_shown : (ops : List Operation) (g time i : ℕ) → IsTrace ops → is_of (cut time ops) g i ≡ true
    → (is_of ops g i ≡ true) × (has_started time (at ops i) ≡ true) × (at (cut time ops) i ≡ operation_at time (at ops i))
own_shown ops g time i is own =
    let parts = and_parts (is_place (cut time ops) i) (granule_of (at (cut time ops) i) == g) own in
    let shows = cut_shows ops is time i in
    let there = and_parts (is_place ops i) (has_started time (at ops i)) (sym shows.0 ∙ parts.0) in
    let same = shows.1 parts.0 in
    let granule : granule_of (at (cut time ops) i) ≡ granule_of (at ops i) = ap granule_of same ∙ known_granule time (at ops i) in
    (and_from (is_place ops i) (granule_of (at ops i) == g) there.0 (ap (λ k. k == g) (sym granule) ∙ parts.1), there.1, same)

shown_own : (ops : List Operation) (g time i : ℕ) → IsTrace ops → is_of ops g i ≡ true → has_started time (at ops i) ≡ true
    → is_of (cut time ops) g i ≡ true
shown_own ops g time i is own started =
    let parts = and_parts (is_place ops i) (granule_of (at ops i) == g) own in
    let shows = cut_shows ops is time i in
    let place : is_place (cut time ops) i ≡ true = shows.0 ∙ and_from (is_place ops i) (has_started time (at ops i)) parts.0 started in
    let granule : granule_of (at (cut time ops) i) ≡ granule_of (at ops i) = ap granule_of (shows.1 place) ∙ known_granule time (at ops i) in
    and_from (is_place (cut time ops) i) (granule_of (at (cut time ops) i) == g) place (ap (λ k. k == g) granule ∙ parts.1)

-- an operation that is answered later, or never, was not by a time
not_yet : (time : ℕ) (op : Operation) → (is_answered op ≡ true → time < op.end) → is_answered (operation_at time op) ≡ false
not_yet time op lasts = by_reply (is_answered op) refl
  where
    by_reply : (b : Bool) → is_answered op ≡ b → is_answered (operation_at time op) ≡ false
    by_reply true seen = ap (λ b. is_answered (cond b op (record op { reply = None }))) (lt-leb op.end time (lasts seen))
    by_reply false unseen = ap is_answered (known_unanswered time op unseen) ∙ unseen

-- and so it need not be taken
not_needed : (ops : List Operation) (g time i n : ℕ) → IsTrace ops → is_of (cut time ops) g i ≡ true
    → (is_answered (at ops i) ≡ true → time < (at ops i).end) → one_if (is_answered (at (cut time ops) i)) ≤ n
not_needed ops g time i n is own lasts =
    let same : is_answered (at (cut time ops) i) ≡ false = ap is_answered (own_shown ops g time i is own).2 ∙ not_yet time (at ops i) lasts in
    subst (λ b. one_if b ≤ n) (sym same) (omega arith)

-- where none of a granule's operations is answered between two times, what explains them up to the one explains them up to the other
pub later_explains : (ops : List Operation) (g w early late : ℕ) (order : List ℕ) → IsTrace ops → early ≤ late
    → ((i : ℕ) → is_of ops g i ≡ true → is_answered (at ops i) ≡ true → early < (at ops i).end → late < (at ops i).end)
    → ExplainsGranule (cut early ops) g w None order → ExplainsGranule (cut late ops) g w None order
later_explains ops g w early late order is le none h = record {
  done = λ i. done i (is_of (cut late ops) g i) refl;
  once = λ i. once i (is_of (cut early ops) g i) refl (h.once i);
  times = subst (IsInTime (cut late ops)) (map-id order) (in_time_moved (cut early ops) (cut late ops) (λ i. i) order same h.times);
  plays = subst (Play (cut late ops) w) (map-id order) (play_moved (cut early ops) (cut late ops) (λ i. i) w order same h.plays);
  ending = tt;
}
  where
    -- each that had started by the first had by the second, and the same was known of it
    stays : (i : ℕ) → is_of (cut early ops) g i ≡ true → is_of (cut late ops) g i ≡ true
    stays i own =
        let shown = own_shown ops g early i is own in
        let start : (at ops i).start ≤ early = leb-true (at ops i).start early shown.1 in
        shown_own ops g late i is shown.0 (le-leb (at ops i).start late (omega (arith, start, le)))

    alike : (i : ℕ) → is_of (cut early ops) g i ≡ true → at (cut late ops) i ≡ at (cut early ops) i
    alike i own =
        let before = own_shown ops g early i is own in
        let after = own_shown ops g late i is (stays i own) in
        after.2 ∙ (sym (known_alike early late (at ops i) le (none i before.0)) ∙ sym before.2)

    same : All (λ i. at (cut late ops) i ≡ at (cut early ops) i) order
    same k d under = alike (get_or order k d) (passes (is_of (cut early ops) g) order h.once k d under)

    once : (i : ℕ) (b : Bool) → is_of (cut early ops) g i ≡ b → times_in order i ≤ one_if b → times_in order i ≤ one_if (is_of (cut late ops) g i)
    once i true own most = subst (λ b. times_in order i ≤ one_if b) (sym (stays i own)) most
    once i false other most = omega (arith, most)

    done : (i : ℕ) (b : Bool) → is_of (cut late ops) g i ≡ b → one_if (b && is_answered (at (cut late ops) i)) ≤ times_in order i
    done i true own = ⊎_elim
        (λ lasts. not_needed ops g late i (times_in order i) is own (λ seen. none i shown.0 seen lasts))
        (λ ended. taken (shown_own ops g early i is shown.0 (le-leb (at ops i).start early (omega (arith, lasting, ended)))))
        (cases_lt early (at ops i).end)
      where
        shown : (is_of ops g i ≡ true) × (has_started late (at ops i) ≡ true) × (at (cut late ops) i ≡ operation_at late (at ops i))
        shown = own_shown ops g late i is own

        lasting : (at ops i).start ≤ (at ops i).end
        lasting = (observed_at ops i is (and_parts (is_place ops i) (granule_of (at ops i) == g) shown.0).0).lasting

        taken : is_of (cut early ops) g i ≡ true → one_if (is_answered (at (cut late ops) i)) ≤ times_in order i
        taken first =
            subst (λ o. one_if (is_answered o) ≤ times_in order i) (sym (alike i first))
            (subst (λ b. one_if (b && is_answered (at (cut early ops) i)) ≤ times_in order i) first (h.done i))
    done i false other = omega arith

-- and where none was answered by a time, none need be taken
pub none_needed : (ops : List Operation) (g w time : ℕ) → IsTrace ops
    → ((i : ℕ) → is_of ops g i ≡ true → is_answered (at ops i) ≡ true → time < (at ops i).end)
    → ExplainsGranule (cut time ops) g w None []
unfolding IsInTime Play times_in
none_needed ops g w time is none = record {
  done = λ i. done i (is_of (cut time ops) g i) refl;
  once = λ i. omega arith;
  times = tt;
  plays = tt;
  ending = tt;
}
  where
    done : (i : ℕ) (b : Bool) → is_of (cut time ops) g i ≡ b → one_if (b && is_answered (at (cut time ops) i)) ≤ 0
    done i true own = not_needed ops g time i 0 is own (none i (own_shown ops g time i is own).0)
    done i false other = omega arith
