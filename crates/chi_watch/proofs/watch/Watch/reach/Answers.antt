-- What is kept of a granule that can be judged says how far its operations can be explained.
use Rattle.std.specs.Prelude.{is_none}
use Rattle.std.proofs.Common.{◌≡◌, ℕ, List, All, Option, Some, None, is_some, true, sym, subst, ◌∙◌, true≢false, ap}
use Rattle.std.proofs.lemmas.Result.{IfOk-weaker}
use Rattle.chi_events.specs.Outstanding.{IsOpen}
use Rattle.chi_events.specs.declared.event.Event.{Event}
use Rattle.chi_search.specs.Looks.{for_verdict}
use Rattle.chi_trace.specs.Words.{word_or_zero}
use Rattle.chi_watch.specs.Judged.{judged}
use Rattle.chi_watch.specs.WordsTold.{openings}
use Rattle.chi_watch.specs.Reaching.{IsOfSomeTrace, IsReach, IsReachedBy, ReachesBy}
use Rattle.chi_watch.specs.declared.reaching.FoundReach.{FoundReach}
use Rattle.chi_watch.specs.Watches.{CanBeJudged, HasTaken, IsUnexplained, WatchValue, granule}
use Rattle.chi_watch.proofs.Found.{can_be, can_not}
use Rattle.chi_watch.proofs.Reached.{judged_here, unexplained_known, untold_explained, shown_here}
use Rattle.chi_watch.proofs.watch.Watch.reach.Goals as goal
use Rattle.chi_watch.proofs.watch.Watch.reach.Goals.{then-is_some-via-then-is_some, then-is_some-via-else-is_some+then-not-can_be_judged}

some_time : (u : Option ℕ) → is_some u ≡ true → is_none u ≡ true → ⊥
some_time None some none = true≢false (sym some)
some_time (Some time) some none = true≢false (sym none)

pub returns-in_default-clause-undecided : goal.returns-in_default-clause-undecided
returns-in_default-clause-undecided g c can events has not =
    let w = c.args.self.now in
    let are_open = subst (λ (v : WatchValue). All (IsOpen v.outstanding.time) v.outstanding.requests) c.self.view_is c.count-count.ensures.are_open in
    let none : granule w c.args.granule ≡ None = subst (λ (v : WatchValue). granule v c.args.granule ≡ None) c.self.view_is (sym c.in_default.ensures.value) in
    absurd (untold_explained c.operations_are_told.ensures c.granules_stand_alone.ensures events w are_open has c.args.granule none can not)

pub returns-then-is_some-clause-undecided : goal.returns-then-is_some-clause-undecided
returns-then-is_some-clause-undecided g c can events has not =
    let w = c.args.self.now in
    let f = c.in-Some.kept.now in
    let here : granule w c.args.granule ≡ Some f = subst (λ (v : WatchValue). granule v c.args.granule ≡ Some f) c.self.view_is (sym c.in-Some.ensures.value) in
    let known = unexplained_known events w has c.args.granule f here not in
    elim c.then-is_some.branch [
      | then-is_some-via-then-is_some b ↦ absurd (some_time f.unknown_since (ap is_some (sym c.unknown_since.ensures) ∙ (sym c.is_some.ensures ∙ b.if-is_some.true)) known)
      | then-is_some-via-else-is_some+then-not-can_be_judged b ↦ absurd (can_not w c.args.granule f here (sym b.can_be_judged.ensures ∙ b.if-not-can_be_judged.true) can)
    ]

pub returns-clause-right : goal.returns-clause-right
returns-clause-right g c =
    let w = c.args.self.now in
    let f = c.in-Some.kept.now in
    let n = c.args.granule in
    let are_open = subst (λ (v : WatchValue). All (IsOpen v.outstanding.time) v.outstanding.requests) c.self.view_is c.count-count.ensures.are_open in
    let here : granule w n ≡ Some f = subst (λ (v : WatchValue). granule v n ≡ Some f) c.self.view_is (sym c.in-Some.ensures.value) in
    let can = can_be w n f here (sym c.can_be_judged.ensures ∙ c.if-not-can_be_judged.false) in
    IfOk-weaker c.reach_of.result (λ (found : FoundReach). ReachesBy f.judge found.reach) (λ (found : FoundReach). (events : List Event) → HasTaken events w → IsReach w.shown events n found.reach)
    (λ found by events has. subst (λ (most : ℕ). IsReach most events n found.reach) (shown_here events w has n f here) (by (judged events) n (word_or_zero (openings events) n) (judged_here c.operations_are_told.ensures events w are_open has n f here can)))
    c.reach_of.ensures.right

pub returns-clause-undecided : goal.returns-clause-undecided
returns-clause-undecided g c =
    let w = c.args.self.now in
    let f = c.in-Some.kept.now in
    let n = c.args.granule in
    let are_open = subst (λ (v : WatchValue). All (IsOpen v.outstanding.time) v.outstanding.requests) c.self.view_is c.count-count.ensures.are_open in
    let here : granule w n ≡ Some f = subst (λ (v : WatchValue). granule v n ≡ Some f) c.self.view_is (sym c.in-Some.ensures.value) in
    let Reached : FoundReach → Type 0 = λ (found : FoundReach). IsReachedBy (g.P.Progress.looked for_verdict) c.args.progress.now c.reach_of.new.progress c.args.budget found.reach found.cut_short in
    IfOk-weaker c.reach_of.result (λ (found : FoundReach). IsOfSomeTrace f.judge → Reached found)
    (λ (found : FoundReach). CanBeJudged w n → (events : List Event) → HasTaken events w → IsUnexplained events n → Reached found)
    (λ found spent can events has not. spent (
      judged events,
      n,
      word_or_zero (openings events) n,
      judged_here c.operations_are_told.ensures events w are_open has n f here can,
    ))
    c.reach_of.ensures.undecided
