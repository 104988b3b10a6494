-- how much the events tell that a watch took
use Rattle.std.specs.Prelude.{if◌then◌else◌, min}
use Rattle.std.proofs.Common.{◌≡◌, ◌+◌, ◌-◌, ◌^◌, ℕ, Bool, true, false, cond, List, ◌∷◌, count_by, filter, is_some, length, ap, arith, ◌∙◌}
use Rattle.std.proofs.lemmas.List.{length-map}
use Rattle.std.proofs.lemmas.List.Sorted.{length_permutation}
use Rattle.std.proofs.lemmas.List.Sums.{sum_by-cons}
use Rattle.chi_events.specs.Operations.{is_outstanding}
use Rattle.chi_events.specs.RequestEvents.{each_request}
use Rattle.chi_events.specs.declared.event.Event.{Event}
use Rattle.chi_trace.specs.declared.operation.Operation.{Operation}
use Rattle.chi_watch.specs.Counts.{ended_operations}
use Rattle.chi_watch.specs.Watches.{WatchValue, Watches}
use Rattle.chi_watch.specs.Followed.{FollowedValue}

module _ (events : List Event) (ended : List Operation) (w : WatchValue) (is : Watches events ended w) where
  pub ended_counted : w.ended ≡ min (length (ended_operations events)) (2 ^ 64 - 1)
  ended_counted = is.count ∙ ap (λ n. min n (2 ^ 64 - 1)) (length_permutation (ended_operations events) ended is.tells.ends)

  pub outstanding_counted : length w.outstanding.requests ≡ length (filter is_outstanding (each_request events))
  outstanding_counted = ap length is.tells.requests ∙ simp length-map

-- the granules that are not judged
abbrev unknown_of : List (ℕ × FollowedValue) → ℕ
unknown_of entries = count_by (λ e. is_some e.1.unknown_since) entries

-- one granule more is counted
pub unjudged_more : (count later total : ℕ) (before after : List (ℕ × FollowedValue)) (g : ℕ) (f : FollowedValue) → before ≡ (g, f) ∷ after
    → later ≡ min (count + (if is_some f.unknown_since then 1 else 0)) (2 ^ 64 - 1) → min (count + unknown_of before) (2 ^ 64 - 1) ≡ min total (2 ^ 64 - 1)
    → min (later + unknown_of after) (2 ^ 64 - 1) ≡ min total (2 ^ 64 - 1)
unjudged_more count later total before after g f one more so_far = by_known (is_some f.unknown_since) whole more
  where
    whole : unknown_of before ≡ cond (is_some f.unknown_since) 1 0 + unknown_of after
    whole = ap unknown_of one ∙ sum_by-cons (λ (e : ℕ × FollowedValue). cond (is_some e.1.unknown_since) 1 0) (g, f) after

    by_known : (b : Bool) → unknown_of before ≡ cond b 1 0 + unknown_of after → later ≡ min (count + (if b then 1 else 0)) (2 ^ 64 - 1)
        → min (later + unknown_of after) (2 ^ 64 - 1) ≡ min total (2 ^ 64 - 1)
    by_known true is is_later = omega (arith, is, is_later, so_far)
    by_known false is is_later = omega (arith, is, is_later, so_far)
