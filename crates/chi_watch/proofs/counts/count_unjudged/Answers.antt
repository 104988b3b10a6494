-- one granule more is counted
use Rattle.std.specs.Prelude.{if◌then◌else◌, min}
use Rattle.std.proofs.Common.{◌≡◌, ◌+◌, ◌-◌, ◌^◌, ℕ, Bool, List, is_some, count_by, arith, ap, subst, ◌∙◌}
use Rattle.chi_watch.specs.Followed.{FollowedValue}
use Rattle.chi_watch.proofs.Counted.{unjudged_more}
use Rattle.chi_watch.proofs.counts.count_unjudged.Goals as goal

pub loop-kept-init : goal.loop-kept-init
loop-kept-init c =
    let is = ap (λ (l : List (ℕ × FollowedValue)). count_by (λ e. is_some e.1.unknown_since) l) c.into_iter-kept-iterator.ensures.into_iter_gives.0 in
    (omega arith, omega (arith, is))

pub loop-kept-preserved : goal.loop-kept-preserved
loop-kept-preserved c =
    let more = subst (λ (b : Bool). c.with_unjudged-count.result ≡ min (c.loop-kept.count + (if b then 1 else 0)) (2 ^ 64 - 1)) (c.is_some.ensures ∙ ap is_some c.unknown_since.ensures) c.with_unjudged-count.ensures in (
      omega (arith, more),
      unjudged_more c.loop-kept.count _ (count_by (λ e. is_some e.1.unknown_since) c.args.granules.now.entries) c.loop-kept.kept-iterator c.next.new.self _ c.in-Some.kept.now c.in-Some.ensures.steps
          more c.loop-kept.invariant.1,
    )

pub returns : goal.returns
returns c =
    let is = ap (λ (l : List (ℕ × FollowedValue)). count_by (λ e. is_some e.1.unknown_since) l) c.in-None.ensures.steps.0 in
    let fits = c.loop-kept.invariant.0 in
    let so_far = c.loop-kept.invariant.1 in
    omega (arith, is, fits, so_far)
