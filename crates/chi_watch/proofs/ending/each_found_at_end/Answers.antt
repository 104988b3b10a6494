-- one granule more
use Rattle.std.proofs.Common.{◌≡◌, ℕ, List, [], ◌∷◌, ◌++◌, All, sym, ap, ap₂, refl, subst, ◌∙◌}
use Rattle.std.specs.BTreeMap.{get}
use Rattle.std.specs.Ordering.{nat_cmp}
use Rattle.std.proofs.lemmas.List.{map-append, take_more}
use Rattle.std.proofs.lemmas.List.Elements.{All-nil, All-push, All-weaker}
use Rattle.chi_search.proofs.Growing.{looked_none, some_after}
use Rattle.chi_watch.specs.Reaching.{IsFoundIn, IsReachedIn, granules_of}
use Rattle.chi_watch.specs.declared.ending.FoundAtEnd.{FoundAtEnd}
use Rattle.chi_watch.proofs.Reached.{reached_after, reached_then}
use Rattle.chi_watch.proofs.ending.each_found_at_end.Goals as goal
use Rattle.chi_search.specs.Looks.{for_verdict}

pub loop-granule-init : goal.loop-granule-init
loop-granule-init g c =
    let granules = get nat_cmp c.args.granules.now in
    let looked = g.P.Progress.looked for_verdict in
    let old = c.args.progress.now in
    let none = sym c.new-found.ensures.items in
    record {
      granules = subst (λ (l : List FoundAtEnd). granules_of l ≡ []) none refl;
      found = subst (All (IsFoundIn granules)) none (All-nil (IsFoundIn granules));
      undecided = subst (All (IsReachedIn looked old old c.args.budget granules)) none (All-nil (IsReachedIn looked old old c.args.budget granules));
      looked = looked_none looked old;
    }

pub loop-granule-preserved : goal.loop-granule-preserved
loop-granule-preserved g c =
    let granules = get nat_cmp c.args.granules.now in
    let looked = g.P.Progress.looked for_verdict in
    let old = c.args.progress.now in
    let middle = c.loop-granule.progress in
    let new = c.found_at_end.new.progress in
    let budget = c.args.budget in
    let before = c.loop-granule.invariant in
    let all = c.loop-granule.found.items in
    let i = c.loop-granule.granule-index in
    let it = c.in_ok-it.it in
    let push = sym c.in_ok-push.ensures.items in
    record {
      granules =
          ap granules_of c.in_ok-push.ensures.items
          ∙ (map-append (λ (f : FoundAtEnd). f.granule) all (it ∷ [])
          ∙ (ap₂ (λ (l : List ℕ) (n : ℕ). l ++ n ∷ []) before.granules c.in_ok-it.ensures.granule ∙ sym (take_more c.args.unexplained.now i 0 c.loop-granule-test.true)));
      found = subst (All (IsFoundIn granules)) push (All-push (IsFoundIn granules) all it before.found c.in_ok-it.ensures.found);
      undecided =
          subst (All (IsReachedIn looked old new budget granules)) push
          (All-push (IsReachedIn looked old new budget granules) all it
          (All-weaker (IsReachedIn looked old middle budget granules) (IsReachedIn looked old new budget granules)
          (reached_then looked old middle new budget granules c.in_ok-it.ensures.looked) all before.undecided)
          (reached_after looked old middle new budget granules before.looked it c.in_ok-it.ensures.undecided));
      looked = some_after looked old middle new before.looked c.in_ok-it.ensures.looked;
    }
