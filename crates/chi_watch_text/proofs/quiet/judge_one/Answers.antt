-- it is noted where no order explains it, with how far it can be explained
use Rattle.std.proofs.Common.{◌⊎◌, ℕ, arith, All, List, inl, inr, refl, sym, subst, ◌∙◌}
use Rattle.std.specs.List.{Contains}
use Rattle.std.proofs.lemmas.List.Elements.{All-contains_itself, All-push, All-weaker}
use Rattle.chi_search.proofs.Growing.{at_least_after, at_least_before, some_after}
use Rattle.chi_watch.proofs.Reached.{reached_wider}
use Rattle.chi_watch.specs.Reaching.{IsReachedBy}
use Rattle.chi_watch_text.specs.Telling.{AreAllTold}
use Rattle.chi_watch_text.specs.Written.{found_text}
use Rattle.chi_watch_text.specs.declared.watched.FoundGranule.{FoundGranule}
use Rattle.chi_watch_text.proofs.ToldTexts.{all_some, none_told}
use Rattle.chi_watch_text.proofs.quiet.judge_one.Goals as goal
use Rattle.chi_search.specs.Looks.{Grew, for_verdict}

-- what is known stays known
same_known : {P : Type 0} (states : P → ℕ → Type 0) (old new : P) → ((n : ℕ) → states old n → states new n) → Grew states old new
same_known states old new same n known = (n, omega arith, same n known)

pub returns-in_err-tell-clause-noted : goal.returns-in_err-tell-clause-noted
returns-in_err-tell-clause-noted g c = inr (
  record { granule = c.args.it.granule; line = c.args.it.line; reach = c.in_ok-so_far.so_far.reach; cut_short = c.in_ok-so_far.so_far.cut_short },
  c.in_ok-add.ensures.added,
  sym (rw c.deref.ensures.value at c.is_found.ensures) ∙ c.if-is_found.false,
  record { granule = refl; line = refl; unexplained = c.in_ok-is_unexplained.ensures.found c.if-branch.true; reach = c.in_ok-so_far.ensures.right },
)

pub returns-in_ok-tell-clause-noted : goal.returns-in_ok-tell-clause-noted
returns-in_ok-tell-clause-noted g c = inr (
  record { granule = c.args.it.granule; line = c.args.it.line; reach = c.in_ok-so_far.so_far.reach; cut_short = c.in_ok-so_far.so_far.cut_short },
  c.in_ok-add.ensures.added,
  sym (rw c.deref.ensures.value at c.is_found.ensures) ∙ c.if-is_found.false,
  record { granule = refl; line = refl; unexplained = c.in_ok-is_unexplained.ensures.found c.if-branch.true; reach = c.in_ok-so_far.ensures.right },
)

pub returns-in_ok-tell-clause-reached : goal.returns-in_ok-tell-clause-reached
returns-in_ok-tell-clause-reached g c events has =
    let looked = g.P.Progress.looked for_verdict in
    let old = c.args.progress.now in
    let middle = c.is_unexplained.new.progress in
    let new = c.reach.new.progress in
    let last = c.tell.new.progress in
    let found = c.args.found.now.items in
    let budget = c.args.options.now.budget in
    let so_far = c.in_ok-so_far.so_far in
    let more = λ (f : FoundGranule). Contains found f ⊎ IsReachedBy looked old last budget f.reach f.cut_short in
    let not = c.in_ok-is_unexplained.ensures.found c.if-branch.true events has in
    let quiet = c.in_ok-is_unexplained.ensures.quiet c.if-branch.true in
    subst (All more) (sym c.in_ok-add.ensures.added)
    (All-push more found (record { granule = c.args.it.granule; line = c.args.it.line; reach = so_far.reach; cut_short = so_far.cut_short })
    (All-weaker (Contains found) more (λ f here. inl here) found (All-contains_itself found))
    (inr (reached_wider looked middle new old last
    (λ least whole. at_least_before looked old new last least (at_least_after looked old middle new least c.in_ok-is_unexplained.ensures.looked whole) (same_known looked new last c.tell.ensures.looked))
    budget so_far.reach so_far.cut_short (c.in_ok-so_far.ensures.undecided quiet events has not))))

pub returns-in_ok-tell-clause-looked : goal.returns-in_ok-tell-clause-looked
returns-in_ok-tell-clause-looked g c =
    let looked = g.P.Progress.looked for_verdict in
    let old = c.args.progress.now in
    let new = c.reach.new.progress in
    some_after looked old new c.tell.new.progress (some_after looked old c.is_unexplained.new.progress new c.in_ok-is_unexplained.ensures.looked c.in_ok-so_far.ensures.looked)
    (same_known looked new c.tell.new.progress c.tell.ensures.looked)

pub returns-in_err-add-clause-begun : goal.returns-in_err-add-clause-begun
returns-in_err-add-clause-begun g c =
    let written = g.W.Write.contents c.args.to.now in
    let found = c.args.found.now.items in
    let text = found_text c.args.options.now.answer in
    all_some text found c.add.new.found.items written written
    (subst (λ (l : List FoundGranule). AreAllTold text found l written written) (sym c.in_err-add.ensures.kept) (none_told text found written))
