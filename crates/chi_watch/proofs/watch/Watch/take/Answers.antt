-- What is found after the event, or not, is so of the events with it.
use Rattle.std.proofs.Common.{◌≡◌, ℕ, ◌==◌, ◌⊎◌, ◌++◌, ◌∷◌, [], false, true, inl, inr, Some, sym, subst, ◌∙◌}
use Rattle.std.specs.List.{list_any}
use Rattle.chi_watch.specs.Judged.{CanBeExplained, is_known}
use Rattle.chi_search.specs.Looks.{GrewBy, for_verdict}
use Rattle.chi_watch.specs.Quiet.{granule_about}
use Rattle.chi_events.specs.Granules.{granule_of_request}
use Rattle.chi_search.proofs.Growing.{at_least_after, some_after}
use Rattle.chi_watch.proofs.Taken.{taken_more}
use Rattle.chi_watch.proofs.watch.Watch.take.Goals as goal

pub returns-in_default-clause-taken : goal.returns-in_default-clause-taken
returns-in_default-clause-taken g c = taken_more c.args.event.now c.in_ok-step_on.field-0 c.args.self.now c.step_on.new.self c.in_ok-step_on.ensures.taken

pub returns-then-branch-clause-taken : goal.returns-then-branch-clause-taken
returns-then-branch-clause-taken g c = taken_more c.args.event.now c.in_ok-step_on.field-0 c.args.self.now c.step_on.new.self c.in_ok-step_on.ensures.taken

pub returns-else-branch-clause-taken : goal.returns-else-branch-clause-taken
returns-else-branch-clause-taken g c = taken_more c.args.event.now c.in_ok-step_on.field-0 c.args.self.now c.step_on.new.self c.in_ok-step_on.ensures.taken

pub returns-then-branch-clause-unexplained : goal.returns-then-branch-clause-unexplained
returns-then-branch-clause-unexplained g c events has =
    c.in_ok-is_unexplained.ensures.found c.if-branch.true (events ++ c.args.event.now ∷ []) (taken_more c.args.event.now c.in_ok-step_on.field-0 c.args.self.now c.step_on.new.self c.in_ok-step_on.ensures.taken events has)

pub returns-then-branch-clause-about : goal.returns-then-branch-clause-about
returns-then-branch-clause-about g c = sym c.granule_about-about.ensures ∙ c.in-Some.is

-- the granule that becomes quiet is the one that is judged
pub returns-else-branch-clause-judged : goal.returns-else-branch-clause-judged
returns-else-branch-clause-judged g c none here becomes events has known =
    let looked = g.P.Progress.looked for_verdict in
    let old = c.args.progress.now in
    let middle = c.step_on.new.progress in
    let new = c.is_unexplained.new.progress in
    let more = events ++ c.args.event.now ∷ [] in
    let about : granule_about c.args.self.now c.args.event.now ≡ Some c.in-Some.granule = sym c.granule_about-about.ensures ∙ c.in-Some.is in
    let both : Some c.in-Some.granule ≡ Some here = sym about ∙ becomes.about in
    let same : here ≡ c.in-Some.granule = cc both in
    let quiet : list_any (λ p. granule_of_request p == c.in-Some.granule) c.step_on.new.self.outstanding.requests ≡ false =
    subst (λ (h : ℕ). list_any (λ p. granule_of_request p == h) c.step_on.new.self.outstanding.requests ≡ false) same becomes.none in
    let said = c.in_ok-is_unexplained.ensures.judged c.if-branch.false quiet more (taken_more c.args.event.now c.in_ok-step_on.field-0 c.args.self.now c.step_on.new.self c.in_ok-step_on.ensures.taken events has) (subst (λ (h : ℕ). is_known more h ≡ true) same known) in
    subst (λ (h : ℕ). CanBeExplained more h ⊎ GrewBy looked old new c.args.budget) (sym same)
    (elim said [
      | inl can ↦ inl can
      | inr whole ↦ inr (at_least_after looked old middle new c.args.budget c.in_ok-step_on.ensures.looked whole)
    ])

pub returns-then-branch-clause-looked : goal.returns-then-branch-clause-looked
returns-then-branch-clause-looked g c =
    some_after (g.P.Progress.looked for_verdict) c.args.progress.now c.step_on.new.progress c.is_unexplained.new.progress c.in_ok-step_on.ensures.looked c.in_ok-is_unexplained.ensures.looked

pub returns-else-branch-clause-looked : goal.returns-else-branch-clause-looked
returns-else-branch-clause-looked g c =
    some_after (g.P.Progress.looked for_verdict) c.args.progress.now c.step_on.new.progress c.is_unexplained.new.progress c.in_ok-step_on.ensures.looked c.in_ok-is_unexplained.ensures.looked
