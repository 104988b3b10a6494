-- what explains a trace explains each cut of it, up to the last operation that had ended
use Rattle.std.proofs.Common.{◌≡◌, ℕ, ◌<◌, ◌≤◌, ◌&&◌, nat_le, Bool, true, false, cond, List, All, Option, None, refl, sym, subst, ◌∙◌, arith, true≢false}
use Rattle.std.proofs.Math.ListN.{get_or}
use Rattle.std.proofs.lemmas.Bool.{and_from, and_parts, le-leb}
use Rattle.chi_lanes.specs.Memory.{Memory}
use Rattle.chi_history.specs.History.{one_if}
use Rattle.chi_trace.specs.declared.operation.Operation.{Operation}
use Rattle.chi_trace.specs.Cuts.{cut, has_started}
use Rattle.chi_trace.specs.Explains.{Explains, IsTrace, at, is_answered, is_place, times_in, unobserved}
use Rattle.chi_trace.proofs.Before.{all_before, answers_before, before, ended_stands, in_time_before, started_before, stands_no_more}
use Rattle.chi_trace.proofs.Cuts.{Shows, cut_shows}
use Rattle.chi_trace.proofs.OperationAt.{AreKnown, answers_known, in_time_known}
use Rattle.chi_trace.proofs.Orders.{observed_at, places_of}
use Rattle.chi_trace.proofs.Places.{of_member}

pub cut_is_explained : (opening : Memory) (final_words : ℕ → Option ℕ) (ts : List Operation) (x : List ℕ) (time : ℕ) → IsTrace ts
    → Explains opening final_words ts x → Explains opening unobserved (cut time ts) (before ts time x)
cut_is_explained opening final_words ts x time is e = record {
  done = done;
  once = once;
  times = in_time_known ts time ys y same (in_time_before ts time x e.times);
  answers = answers_known ts time ys opening y same (answers_before ts time opening x e.answers);
  ending = λ g. tt;
}
  where
    ys : List Operation
    ys = cut time ts

    y : List ℕ
    y = before ts time x

    shows : (i : ℕ) → Shows ts time ys i
    shows i = cut_shows ts is time i

    places : All (λ i. is_place ts i ≡ true) x
    places = places_of ts x e.once

    lasting : All (λ i. (at ts i).start ≤ (at ts i).end) x
    lasting k d under = (observed_at ts (get_or x k d) is (places k d under)).lasting

    started : All (λ i. (at ts i).start ≤ time) y
    started = started_before ts time x lasting e.times

    there : All (λ i. is_place ys i ≡ true) y
    there k d under =
        let i : ℕ = get_or y k d in
        (shows i).0 ∙ and_from (is_place ts i) (has_started time (at ts i)) (all_before (λ j. is_place ts j ≡ true) ts time x places k d under)
        (le-leb (at ts i).start time (started k d under))

    same : AreKnown ts time ys y
    same k d under = (shows (get_or y k d)).1 (there k d under)

    done : (i : ℕ) → one_if (is_place ys i && is_answered (at ys i)) ≤ times_in y i
    done i = by_place (is_place ys i) refl
      where
        by_end : (b : Bool) → nat_le (at ts i).end time ≡ b → is_place ts i ≡ true → one_if (is_answered (cond b (at ts i) (record (at ts i) { reply = None }))) ≤ times_in y i
        by_end true ended place =
            let whole : one_if (is_place ts i && is_answered (at ts i)) ≤ times_in x i = e.done i in
            subst (λ n. one_if (is_answered (at ts i)) ≤ n) (sym (ended_stands ts time x i ended))
            (subst (λ b. one_if (b && is_answered (at ts i)) ≤ times_in x i) place whole)
        by_end false later place = omega arith

        by_place : (b : Bool) → is_place ys i ≡ b → one_if (b && is_answered (at ys i)) ≤ times_in y i
        by_place true place =
            subst (λ o. one_if (is_answered o) ≤ times_in y i) (sym ((shows i).1 place))
            (by_end (nat_le (at ts i).end time) refl (and_parts (is_place ts i) (has_started time (at ts i)) (sym (shows i).0 ∙ place)).0)
        by_place false place = omega arith

    once : (i : ℕ) → times_in y i ≤ one_if (is_place ys i)
    once i = by_place (is_place ys i) refl
      where
        one : (b : Bool) → times_in x i ≤ one_if b → times_in x i ≤ 1
        one true most = most
        one false most = omega (arith, most)

        by_place : (b : Bool) → is_place ys i ≡ b → times_in y i ≤ one_if b
        by_place true place = let most = one (is_place ts i) (e.once i) in let fewer = stands_no_more ts time x i in omega (arith, most, fewer)
        by_place false place = none (λ some. absurd (true≢false (sym (of_member (λ j. is_place ys j ≡ true) y i there some) ∙ place)))
          where
            none : (0 < times_in y i → times_in y i ≤ 0) → times_in y i ≤ 0
            none h = by_count (times_in y i) h
              where
                by_count : (n : ℕ) → (0 < n → n ≤ 0) → n ≤ 0
                by_count n g = grind (arith, g)
