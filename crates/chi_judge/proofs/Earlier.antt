-- what explains a granule explains it up to each time
use Rattle.std.proofs.Common.{◌≡◌, ℕ, ◌<◌, ◌≤◌, ◌^◌, ◌&&◌, ◌==◌, nat_le, Bool, true, false, cond, List, [], ◌∷◌, All, Option, None, get_or, refl, sym, ap, subst, ◌∙◌, arith, true≢false}
use Rattle.std.proofs.lemmas.Bool.{and_from, and_parts, le-leb}
use Rattle.std.proofs.lemmas.List.Elements.{All-head, All-tail}
use Rattle.chi_history.specs.History.{one_if}
use Rattle.chi_trace.specs.declared.operation.Operation.{Operation}
use Rattle.chi_trace.specs.Cuts.{cut, has_started, operation_at}
use Rattle.chi_trace.specs.Explains.{IsTrace, at, is_answered, is_place, times_in}
use Rattle.chi_trace.specs.Granules.{ExplainsGranule, Fits, Play, granule_of, is_of, next}
use Rattle.chi_trace.proofs.Before.{all_before, before, ended_stands, in_time_before, some_ended, started_before, stands_no_more}
use Rattle.chi_trace.proofs.Cuts.{cut_shows}
use Rattle.chi_trace.proofs.Later.{own_shown}
use Rattle.chi_trace.proofs.OperationAt.{AreKnown, in_time_known}
use Rattle.chi_trace.proofs.Orders.{observed_at}
use Rattle.chi_trace.proofs.Places.{of_member, passes}
use Rattle.chi_trace.proofs.TracedCuts.{IsTrace-cut}
use Rattle.chi_judge.specs.Reaches.{IsExplained}
use Rattle.chi_judge.proofs.Cutting.{cut_again}

-- the operations of an order fit up to the last of them that had ended
pub play_before : (ops : List Operation) (time w : ℕ) (order : List ℕ) → Play ops w order → Play ops w (before ops time order)
unfolding before Play
play_before ops time w [] plays = tt
play_before ops time w (i ∷ order) plays = by_test (some_ended ops time (i ∷ order)) (play_before ops time (next (at ops i) w) order plays.2)
  where
    by_test : (b : Bool) → Play ops (next (at ops i) w) (before ops time order) → Play ops w (cond b (i ∷ before ops time order) [])
    by_test true rest = (plays.0, plays.1, rest)
    by_test false rest = tt

-- what an operation leaves of a word is not its reply's matter
next_unanswered : (op : Operation) (w : ℕ) → next (record op { reply = None }) w ≡ next op w
unfolding next
next_unanswered op w = refl

-- and fit as they were known then
pub play_known : (ops : List Operation) (time : ℕ) (known : List Operation) (w : ℕ) (order : List ℕ) → AreKnown ops time known order → Play ops w order → Play known w order
unfolding Play Fits
play_known ops time known w [] same plays = tt
play_known ops time known w (i ∷ order) same plays =
    subst Told (sym (All-head (λ j. at known j ≡ operation_at time (at ops j)) i order same)) (by_test (nat_le (at ops i).end time)
    (play_known ops time known (next (at ops i) w) order (All-tail (λ j. at known j ≡ operation_at time (at ops j)) i order same) plays.2))
  where
    Told : Operation → Type 0
    Told o = Fits o w × (next o w < 2 ^ 64) × Play known (next o w) order

    by_test : (b : Bool) → Play known (next (at ops i) w) order → Told (cond b (at ops i) (record (at ops i) { reply = None }))
    by_test true rest = (plays.0, plays.1, rest)
    by_test false rest = (tt, subst (λ n. n < 2 ^ 64) (sym (next_unanswered (at ops i) w)) plays.1, subst (λ n. Play known n order) (sym (next_unanswered (at ops i) w)) rest)

-- an operation of a granule that had started by a time stands in the cut
stands_in : (ops : List Operation) (g time i : ℕ) → IsTrace ops → is_of ops g i ≡ true → has_started time (at ops i) ≡ true → is_of (cut time ops) g i ≡ true
stands_in ops g time i is own started =
    let parts = and_parts (is_place ops i) (granule_of (at ops i) == g) own in
    let shows = cut_shows ops is time i in
    let place : is_place (cut time ops) i ≡ true = shows.0 ∙ and_from (is_place ops i) (has_started time (at ops i)) parts.0 started in
    and_from (is_place (cut time ops) i) (granule_of (at (cut time ops) i) == g) place (ap (λ o. granule_of o == g) (shows.1 place) ∙ (by_end (nat_le (at ops i).end time) ∙ parts.1))
  where
    by_end : (b : Bool) → (granule_of (cond b (at ops i) (record (at ops i) { reply = None })) == g) ≡ (granule_of (at ops i) == g)
    by_end true = refl
    by_end false = refl

pub earlier_explains : (ops : List Operation) (g w time : ℕ) (final_word : Option ℕ) (order : List ℕ) → IsTrace ops
    → ExplainsGranule ops g w final_word order → ExplainsGranule (cut time ops) g w None (before ops time order)
earlier_explains ops g w time final_word order is e = record {
  done = λ i. done i (is_of (cut time ops) g i) refl;
  once = λ i. once i (is_of (cut time ops) g i) refl;
  times = in_time_known ops time (cut time ops) first same (in_time_before ops time order e.times);
  plays = play_known ops time (cut time ops) w first same (play_before ops time w order e.plays);
  ending = tt;
}
  where
    first : List ℕ
    first = before ops time order

    own : All (λ i. is_of ops g i ≡ true) order
    own = passes (is_of ops g) order e.once

    lasting : All (λ i. (at ops i).start ≤ (at ops i).end) order
    lasting k d below =
        let i = get_or order k d in
        (observed_at ops i is (and_parts (is_place ops i) (granule_of (at ops i) == g) (own k d below)).0).lasting

    started : All (λ i. (at ops i).start ≤ time) first
    started = started_before ops time order lasting e.times

    there : All (λ i. is_of (cut time ops) g i ≡ true) first
    there k d below =
        let i = get_or first k d in
        stands_in ops g time i is (all_before (λ j. is_of ops g j ≡ true) ops time order own k d below) (le-leb (at ops i).start time (started k d below))

    same : AreKnown ops time (cut time ops) first
    same k d below = (own_shown ops g time (get_or first k d) is (there k d below)).2

    done : (i : ℕ) (b : Bool) → is_of (cut time ops) g i ≡ b → one_if (b && is_answered (at (cut time ops) i)) ≤ times_in first i
    done i true here =
        let shown = own_shown ops g time i is here in
        subst (λ o. one_if (is_answered o) ≤ times_in first i) (sym shown.2) (by_end (nat_le (at ops i).end time) refl shown.0)
      where
        by_end : (b : Bool) → nat_le (at ops i).end time ≡ b → is_of ops g i ≡ true → one_if (is_answered (cond b (at ops i) (record (at ops i) { reply = None }))) ≤ times_in first i
        by_end true ended of =
            subst (λ n. one_if (is_answered (at ops i)) ≤ n) (sym (ended_stands ops time order i ended))
            (subst (λ b. one_if (b && is_answered (at ops i)) ≤ times_in order i) of (e.done i))
        by_end false later of = omega arith
    done i false other = omega arith

    once : (i : ℕ) (b : Bool) → is_of (cut time ops) g i ≡ b → times_in first i ≤ one_if b
    once i true here = let most = one (is_of ops g i) (e.once i) in let fewer = stands_no_more ops time order i in omega (arith, most, fewer)
      where
        one : (b : Bool) → times_in order i ≤ one_if b → times_in order i ≤ 1
        one true most = most
        one false most = omega (arith, most)
    once i false other = none (times_in first i) (λ some. absurd (true≢false (sym (of_member (λ j. is_of (cut time ops) g j ≡ true) first i there some) ∙ other)))
      where
        none : (n : ℕ) → (0 < n → n ≤ 0) → n ≤ 0
        none n h = grind (arith, h)

-- what is explained up to a time is explained up to each earlier one
pub explained_earlier : (ops : List Operation) (g w early late : ℕ) → IsTrace ops → early ≤ late → IsExplained late ops g w → IsExplained early ops g w
explained_earlier ops g w early late is le (order, explains) = (
  before (cut late ops) early order,
  subst (λ (l : List Operation). ExplainsGranule l g w None (before (cut late ops) early order)) (cut_again early late le ops)
      (earlier_explains (cut late ops) g w early None order (IsTrace-cut late ops is) explains),
)
