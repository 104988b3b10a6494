-- A granule whose judge says so can be explained, or cannot.
use Rattle.std.specs.Prelude.{is_none}
use Rattle.std.proofs.Common.{◌≡◌, ◌⊎◌, ℕ, IfSome, Option, None, Some, is_some, cond, false, arith, inl, inr, ap, refl, subst, sym, ◌∙◌, true≢false}
use Rattle.chi_watch.specs.Endings.{IsExplainable, judged_word}
use Rattle.chi_search.specs.Looks.{GrewBy, for_verdict}
use Rattle.chi_search.proofs.Growing.{grew_by}
use Rattle.chi_watch.specs.Watches.{WatchValue, granule}
use Rattle.chi_watch.specs.Followed.{FollowedValue}
use Rattle.chi_judge.specs.Standings.{IfUnexplained, IsExplainable as CanExplain, IsInexplicable}
use Rattle.chi_judge.specs.declared.standing.Standing.{Standing}
use Rattle.chi_watch.proofs.Found.{can_be}
use Rattle.chi_watch.proofs.Judging.{said_explained, said_undecided}
use Rattle.chi_watch.proofs.watch.Watch.is_found.Goals as goal

no_time : (u : Option ℕ) → is_some u ≡ false → u ≡ None
no_time None is = refl
no_time (Some time) is = absurd (true≢false is)

-- the word at the end of a granule of which all that wrote to it is told
word_here : (f : FollowedValue) → f.unknown_since ≡ None → f.final_word ≡ judged_word f
word_here f since = sym (ap (λ (u : Option ℕ). cond (is_none u) f.final_word None) since)

pub returns-in-Explained-clause-none : goal.returns-in-Explained-clause-none
returns-in-Explained-clause-none g c so quiet =
    let said : IsExplainable c.in-Some.kept.now ⊎ GrewBy (g.P.Progress.looked for_verdict) c.args.progress.now c.check.new.progress c.args.budget =
    elim c.in-Explained.is [
      | inl is ↦ inl (subst (CanExplain c.in-Some.kept.now.judge) (c.final_word.ensures ∙ word_here c.in-Some.kept.now (no_time c.in-Some.kept.now.unknown_since (ap is_some (sym c.unknown_since.ensures) ∙ (sym c.is_some.ensures ∙ c.if-is_some.false)))) (said_explained c.in_ok-check.field-0 _ is c.in_ok-check.ensures.explained))
      | inr is ↦ inr (grew_by g.P.Progress.looked c.args.progress.now c.check.new.progress c.args.budget c.args.budget (omega arith) (said_undecided c.in_ok-check.field-0 _ is c.in_ok-check.ensures.undecided))
    ] in
    let judged = λ (f : FollowedValue). f.unknown_since ≡ None → IsExplainable f ⊎ GrewBy (g.P.Progress.looked for_verdict) c.args.progress.now c.check.new.progress c.args.budget in
    subst (λ (w : WatchValue). IfSome (granule w c.args.granule) judged) c.self.view_is (subst (λ (o : Option FollowedValue). IfSome o judged) c.in-Some.ensures.value (λ since. said))

pub returns-in-Unexplained-clause-found : goal.returns-in-Unexplained-clause-found
returns-in-Unexplained-clause-found g c so =
    let w = c.args.self.now in
    let f = c.in-Some.kept.now in
    let here : granule w c.args.granule ≡ Some f = subst (λ (v : WatchValue). granule v c.args.granule ≡ Some f) c.self.view_is (sym c.in-Some.ensures.value) in
    record {
      followed = f;
      is = here;
      since = no_time f.unknown_since (ap is_some (sym c.unknown_since.ensures) ∙ (sym c.is_some.ensures ∙ c.if-is_some.false));
      judged = can_be w c.args.granule f here (sym c.can_be_judged.ensures ∙ c.if-not-can_be_judged.false);
      none = subst (λ (word : Option ℕ). IsInexplicable f.judge word) c.final_word.ensures (subst (λ (s : Standing). IfUnexplained s (IsInexplicable f.judge c.final_word.result)) c.in-Unexplained.is c.in_ok-check.ensures.unexplained);
    }
