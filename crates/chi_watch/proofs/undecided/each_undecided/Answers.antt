-- one granule more
use Rattle.std.proofs.Common.{◌≡◌, ℕ, List, [], ◌∷◌, ◌++◌, All, sym, ap, ap₂, refl, subst, ◌∙◌}
use Rattle.std.specs.BTreeMap.{get}
use Rattle.std.specs.Ordering.{nat_cmp}
use Rattle.std.proofs.lemmas.List.{map-append, take_more}
use Rattle.std.proofs.lemmas.List.Elements.{All-nil, All-push, All-weaker}
use Rattle.chi_search.proofs.Growing.{looked_none, some_after}
use Rattle.chi_watch.specs.Undecided.{IsAsFarIn, IsExplainedIn, undecided_of}
use Rattle.chi_watch.specs.declared.undecided.UndecidedAtEnd.{UndecidedAtEnd}
use Rattle.chi_watch.proofs.ExplainedFar.{far_after, far_then}
use Rattle.chi_watch.proofs.undecided.each_undecided.Goals as goal
use Rattle.chi_search.specs.Looks.{for_verdict}

pub loop-granule-init : goal.loop-granule-init
loop-granule-init g c =
    let granules = get nat_cmp c.args.granules.now in
    let looked = g.P.Progress.looked for_verdict in
    let old = c.args.progress.now in
    let none = sym c.new-found.ensures.items in
    record {
      go_on = c.requires.go_on;
      granules = subst (λ (l : List UndecidedAtEnd). undecided_of l ≡ []) none refl;
      explained = subst (All (IsExplainedIn granules)) none (All-nil (IsExplainedIn granules));
      far = subst (All (IsAsFarIn looked old old c.args.budget granules)) none (All-nil (IsAsFarIn looked old old c.args.budget granules));
      looked = looked_none looked old;
    }

pub loop-granule-preserved : goal.loop-granule-preserved
loop-granule-preserved g c =
    let granules = get nat_cmp c.args.granules.now in
    let looked = g.P.Progress.looked for_verdict in
    let old = c.args.progress.now in
    let middle = c.loop-granule.progress in
    let new = c.undecided_at_end.new.progress in
    let budget = c.args.budget in
    let before = c.loop-granule.invariant in
    let all = c.loop-granule.found.items in
    let i = c.loop-granule.granule-index in
    let it = c.in_ok-it.it in
    let push = sym c.in_ok-push.ensures.items in
    record {
      go_on = before.go_on;
      granules =
          ap undecided_of c.in_ok-push.ensures.items
          ∙ (map-append (λ (u : UndecidedAtEnd). u.granule) all (it ∷ [])
          ∙ (ap₂ (λ (l : List ℕ) (n : ℕ). l ++ n ∷ []) before.granules c.in_ok-it.ensures.granule ∙ sym (take_more c.args.undecided.now i 0 c.loop-granule-test.true)));
      explained = subst (All (IsExplainedIn granules)) push (All-push (IsExplainedIn granules) all it before.explained c.in_ok-it.ensures.explained);
      far =
          subst (All (IsAsFarIn looked old new budget granules)) push
          (All-push (IsAsFarIn looked old new budget granules) all it
          (All-weaker (IsAsFarIn looked old middle budget granules) (IsAsFarIn looked old new budget granules)
          (far_then looked old middle new budget granules c.in_ok-it.ensures.looked) all before.far)
          (far_after looked old middle new budget granules before.looked it c.in_ok-it.ensures.far));
      looked = some_after looked old middle new before.looked c.in_ok-it.ensures.looked;
    }
