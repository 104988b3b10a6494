-- what the granules say once all that is still open was told
use Rattle.std.proofs.Common.{◌≡◌, ◌⊎◌, ◌*◌, ℕ, [], List, All, Option, inl, inr, length, ap, subst, sym, ◌∙◌}
use Rattle.std.specs.Prelude.{IsPermutation}
use Rattle.std.proofs.lemmas.List.{length-map, nil_from_length}
use Rattle.std.proofs.lemmas.List.Sorted.{All-permutation, Contains-permutation, IsPermutation-map, length_permutation}
use Rattle.std.specs.BTreeMap.{get}
use Rattle.std.specs.Ordering.{nat_cmp}
use Rattle.chi_events.specs.Outstanding.{IsOpen}
use Rattle.chi_events.specs.declared.event.Event.{Event}
use Rattle.chi_events.specs.declared.outstanding.Open.{Open}
use Rattle.chi_search.specs.Looks.{Grew, GrewBy, for_verdict}
use Rattle.chi_search.proofs.Growing.{at_least_after, at_least_before, some_after}
use Rattle.chi_watch.specs.Endings.{AreToldTo, CanClose, IsInexplicableAt, IsListed}
use Rattle.chi_watch.specs.Judged.{CanBeExplained}
use Rattle.chi_watch.specs.Reaching.{IsFoundAtEnd, IsFoundIn, IsReachedBy, IsReachedIn, granules_of}
use Rattle.chi_watch.specs.Undecided.{GoesOnAt, IsAsFarIn, IsExplainedAsFar, IsExplainedIn, IsExplainedTo, states_for, undecided_of}
use Rattle.chi_watch.specs.Watches.{HasTaken, WatchValue, granule}
use Rattle.chi_watch.specs.declared.ending.FoundAtEnd.{FoundAtEnd}
use Rattle.chi_watch.specs.Followed.{FollowedValue}
use Rattle.chi_watch.specs.declared.undecided.UndecidedAtEnd.{UndecidedAtEnd}
use Rattle.chi_watch.proofs.ToldAtTheEnd.{own_open}
use Rattle.chi_watch.proofs.AtTheEnd.{AreClosed, all_listed, ended_each, ended_explained, ended_explained_to, ended_far, ended_found, ended_reached, none_listed}
use Rattle.chi_search.proofs.Growing.{at_least_both}
use Rattle.chi_watch.proofs.ExplainedFar.{as_far_in}
use Rattle.chi_watch.proofs.Reached.{reached_after, reached_then}
use Rattle.chi_watch.proofs.watch.Watch.ending.Goals as goal

-- the open requests' operations were told, where they could be
abbrev Closes : WatchValue → (ℕ → Option FollowedValue) → Type 0
Closes w new = All (CanClose (granule w)) w.outstanding.requests → AreClosed w new

-- so of the watch that is passed in, whose requests these are
closes_of : (inside w : WatchValue) (requests : List Open) (new : ℕ → Option FollowedValue) → inside ≡ w → requests ≡ inside.outstanding.requests
    → (All (CanClose (granule inside)) requests → (h : ℕ) → AreToldTo (own_open h requests) (granule inside h) (new h)) → Closes w new
closes_of inside w requests new same all told =
    subst (λ (v : WatchValue). Closes v new) same
    (subst (λ (l : List Open). All (CanClose (granule inside)) l → (h : ℕ) → AreToldTo (own_open h l) (granule inside h) (new h)) all told)

-- where none is left once they are sorted, there was none
none_sorted : (found sorted : List FoundAtEnd) → IsPermutation found sorted → sorted ≡ [] → found ≡ []
none_sorted found sorted moved none = nil_from_length found (sym (length_permutation found sorted moved) ∙ ap length none)

-- a granule that was listed still is
listed_sorted : (found sorted : List FoundAtEnd) (g : ℕ) (undecided : List ℕ) → IsPermutation found sorted → IsListed g (granules_of found) undecided → IsListed g (granules_of sorted) undecided
listed_sorted found sorted g undecided moved (inl there) = inl (Contains-permutation (granules_of found) (granules_of sorted) g (IsPermutation-map (λ (f : FoundAtEnd). f.granule) found sorted moved) there)
listed_sorted found sorted g undecided moved (inr there) = inr there

pub returns-clause-explained : goal.returns-clause-explained
returns-clause-explained g c unexplained undecided events has =
    let new = get nat_cmp c.close_open.new.granules in
    let closes = closes_of _ c.args.self _ new c.self.view_is (c.deref.ensures.value ∙ c.in_ok-requests.ensures.requests) c.in_ok-close_open.ensures.told in
    let are_open = subst (λ (w : WatchValue). All (IsOpen w.outstanding.time) w.outstanding.requests) c.self.view_is c.requests.ensures.are_open in
    let un = c.in_ok-listed.listed.unexplained.items in
    let same : granules_of c.in_ok-found.found.items ≡ un = c.in_ok-found.ensures.granules ∙ c.deref-2.ensures.value in
    let no_un : un ≡ [] = sym same ∙ ap granules_of (none_sorted c.in_ok-found.found.items c.in_ok-unexplained.unexplained.items c.in_ok-unexplained.ensures.same unexplained) in
    let dec = c.in_ok-listed.listed.undecided.items in
    let same_dec : undecided_of c.in_ok-undecided.undecided.items ≡ dec = c.in_ok-undecided.ensures.granules ∙ c.deref-3.ensures.value in
    let no_dec : dec ≡ [] = sym same_dec ∙ ap undecided_of undecided in
    ended_explained c.operations_are_told.ensures c.granules_stand_alone.ensures c.granules_explain.ensures c.args.self new are_open closes
    (λ h. none_listed h un dec no_un no_dec (new h) (c.in_ok-listed.ensures.each h)) events has

pub returns-clause-each : goal.returns-clause-each
returns-clause-each g c h events has =
    let new = get nat_cmp c.close_open.new.granules in
    let closes = closes_of _ c.args.self _ new c.self.view_is (c.deref.ensures.value ∙ c.in_ok-requests.ensures.requests) c.in_ok-close_open.ensures.told in
    let are_open = subst (λ (w : WatchValue). All (IsOpen w.outstanding.time) w.outstanding.requests) c.self.view_is c.requests.ensures.are_open in
    let un = c.in_ok-listed.listed.unexplained.items in
    let same : granules_of c.in_ok-found.found.items ≡ un = c.in_ok-found.ensures.granules ∙ c.deref-2.ensures.value in
    let dec = c.in_ok-listed.listed.undecided.items in
    let told = undecided_of c.in_ok-undecided.undecided.items in
    let same_dec : told ≡ dec = c.in_ok-undecided.ensures.granules ∙ c.deref-3.ensures.value in
    let said : CanBeExplained events h ⊎ IsListed h (granules_of c.in_ok-found.found.items) told =
    subst (λ (l : List ℕ). CanBeExplained events h ⊎ IsListed h (granules_of c.in_ok-found.found.items) l) (sym same_dec)
    (subst (λ (l : List ℕ). CanBeExplained events h ⊎ IsListed h l dec) (sym same)
    (ended_each c.operations_are_told.ensures c.granules_stand_alone.ensures (IsListed h un dec) c.args.self new are_open closes h (c.in_ok-listed.ensures.each h) events has)) in
    elim said [
      | inl can ↦ inl can
      | inr there ↦ inr (listed_sorted c.in_ok-found.found.items c.in_ok-unexplained.unexplained.items h told c.in_ok-unexplained.ensures.same there)
    ]

pub returns-clause-unexplained : goal.returns-clause-unexplained
returns-clause-unexplained g c =
    let new = get nat_cmp c.close_open.new.granules in
    let closes = closes_of _ c.args.self _ new c.self.view_is (c.deref.ensures.value ∙ c.in_ok-requests.ensures.requests) c.in_ok-close_open.ensures.told in
    let are_open = subst (λ (w : WatchValue). All (IsOpen w.outstanding.time) w.outstanding.requests) c.self.view_is c.requests.ensures.are_open in
    let un = c.in_ok-listed.listed.unexplained.items in
    let same : granules_of c.in_ok-found.found.items ≡ un = c.in_ok-found.ensures.granules ∙ c.deref-2.ensures.value in
    All-permutation (λ (f : FoundAtEnd). (events : List Event) → HasTaken events c.args.self → IsFoundAtEnd c.args.self.shown events f) c.in_ok-found.found.items c.in_ok-unexplained.unexplained.items c.in_ok-unexplained.ensures.same
    (all_listed (λ (f : FoundAtEnd). f.granule) (λ h. IsInexplicableAt (new h)) (IsFoundIn new) (λ (f : FoundAtEnd). (events : List Event) → HasTaken events c.args.self → IsFoundAtEnd c.args.self.shown events f) c.in_ok-found.found.items un same c.in_ok-listed.ensures.unexplained
    c.in_ok-found.ensures.found (ended_found c.operations_are_told.ensures c.parts_explain.ensures c.args.self new are_open closes))

pub returns-clause-reached : goal.returns-clause-reached
returns-clause-reached g c =
    let new = get nat_cmp c.close_open.new.granules in
    let closes = closes_of _ c.args.self _ new c.self.view_is (c.deref.ensures.value ∙ c.in_ok-requests.ensures.requests) c.in_ok-close_open.ensures.told in
    let are_open = subst (λ (w : WatchValue). All (IsOpen w.outstanding.time) w.outstanding.requests) c.self.view_is c.requests.ensures.are_open in
    let un = c.in_ok-listed.listed.unexplained.items in
    let same : granules_of c.in_ok-found.found.items ≡ un = c.in_ok-found.ensures.granules ∙ c.deref-2.ensures.value in
    let looked = g.P.Progress.looked for_verdict in
    let old = c.args.progress.now in
    let closed = c.close_open.new.progress in
    let judged = c.judge_all.new.progress in
    let reached = c.each_found_at_end.new.progress in
    let last = c.each_undecided.new.progress in
    let Reached : FoundAtEnd → Type 0 = λ (f : FoundAtEnd). (events : List Event) → HasTaken events c.args.self → IsReachedBy looked old last c.args.budget f.reach f.cut_short in
    let before : Grew looked old judged = some_after looked old closed judged c.in_ok-close_open.ensures.looked c.in_ok-listed.ensures.looked in
    All-permutation Reached c.in_ok-found.found.items c.in_ok-unexplained.unexplained.items c.in_ok-unexplained.ensures.same
    (all_listed (λ (f : FoundAtEnd). f.granule) (λ h. IsInexplicableAt (new h)) (IsReachedIn looked judged reached c.args.budget new) Reached c.in_ok-found.found.items un same
    c.in_ok-listed.ensures.unexplained c.in_ok-found.ensures.undecided
    (λ f none spent. ended_reached c.operations_are_told.ensures (IsReachedBy looked old last c.args.budget f.reach f.cut_short) c.args.self new are_open closes f none
    (reached_after looked old judged last c.args.budget new before f (reached_then looked judged reached last c.args.budget new c.in_ok-undecided.ensures.looked f spent))))

pub returns-clause-undecided : goal.returns-clause-undecided
returns-clause-undecided g c =
    let new = get nat_cmp c.close_open.new.granules in
    let looked = g.P.Progress.looked for_verdict in
    let old = c.args.progress.now in
    let closed = c.close_open.new.progress in
    let judged = c.judge_all.new.progress in
    let reached = c.each_found_at_end.new.progress in
    let last = c.each_undecided.new.progress in
    let after : Grew looked judged last = some_after looked judged reached last c.in_ok-found.ensures.looked c.in_ok-undecided.ensures.looked in
    all_listed (λ (u : UndecidedAtEnd). u.granule) (λ h. GrewBy looked closed judged c.args.budget) (IsExplainedIn new) (λ (u : UndecidedAtEnd). GrewBy looked old last c.args.budget)
    c.in_ok-undecided.undecided.items c.in_ok-listed.listed.undecided.items (c.in_ok-undecided.ensures.granules ∙ c.deref-3.ensures.value) c.in_ok-listed.ensures.undecided c.in_ok-undecided.ensures.explained
    (λ u whole said. at_least_before looked old judged last c.args.budget (at_least_after looked old closed judged c.args.budget c.in_ok-close_open.ensures.looked whole) after)

pub returns-clause-explained_to : goal.returns-clause-explained_to
returns-clause-explained_to g c =
    let new = get nat_cmp c.close_open.new.granules in
    let closes = closes_of _ c.args.self _ new c.self.view_is (c.deref.ensures.value ∙ c.in_ok-requests.ensures.requests) c.in_ok-close_open.ensures.told in
    let are_open = subst (λ (w : WatchValue). All (IsOpen w.outstanding.time) w.outstanding.requests) c.self.view_is c.requests.ensures.are_open in
    all_listed (λ (u : UndecidedAtEnd). u.granule) (λ h. GoesOnAt (new h)) (IsExplainedIn new) (λ (u : UndecidedAtEnd). (events : List Event) → HasTaken events c.args.self → IsExplainedTo events u)
    c.in_ok-undecided.undecided.items c.in_ok-listed.listed.undecided.items (c.in_ok-undecided.ensures.granules ∙ c.deref-3.ensures.value) c.in_ok-listed.ensures.go_on c.in_ok-undecided.ensures.explained
    (ended_explained_to c.operations_are_told.ensures c.args.self new are_open closes)

pub returns-clause-far : goal.returns-clause-far
returns-clause-far g c =
    let new = get nat_cmp c.close_open.new.granules in
    let closes = closes_of _ c.args.self _ new c.self.view_is (c.deref.ensures.value ∙ c.in_ok-requests.ensures.requests) c.in_ok-close_open.ensures.told in
    let are_open = subst (λ (w : WatchValue). All (IsOpen w.outstanding.time) w.outstanding.requests) c.self.view_is c.requests.ensures.are_open in
    let looked = g.P.Progress.looked for_verdict in
    let old = c.args.progress.now in
    let closed = c.close_open.new.progress in
    let judged = c.judge_all.new.progress in
    let reached = c.each_found_at_end.new.progress in
    let last = c.each_undecided.new.progress in
    let budget = c.args.budget in
    let items = c.in_ok-undecided.undecided.items in
    let dec = c.in_ok-listed.listed.undecided.items in
    let same_dec : undecided_of items ≡ dec = c.in_ok-undecided.ensures.granules ∙ c.deref-3.ensures.value in
    let count : length dec ≡ length items = ap length (sym same_dec) ∙ length-map items (λ (u : UndecidedAtEnd). u.granule) in
    let before : GrewBy looked old reached (budget * length items) =
    subst (λ (n : ℕ). GrewBy looked old reached (budget * n)) count
    (at_least_before looked old judged reached (budget * length dec)
    (at_least_after looked old closed judged (budget * length dec) c.in_ok-close_open.ensures.looked c.in_ok-listed.ensures.together) c.in_ok-found.ensures.looked) in
    all_listed (λ (u : UndecidedAtEnd). u.granule) (λ h. GoesOnAt (new h)) (IsAsFarIn looked reached last budget new)
    (λ (u : UndecidedAtEnd). (events : List Event) → HasTaken events c.args.self → IsExplainedAsFar looked old last (states_for budget items) events u) items dec same_dec c.in_ok-listed.ensures.go_on
    c.in_ok-undecided.ensures.far
    (λ u goes far. ended_far c.operations_are_told.ensures c.args.self new are_open closes looked old last (states_for budget items) u goes
    (as_far_in looked reached last old last budget (states_for budget items) (at_least_both looked old reached last (budget * length items) budget before) new u far))

pub returns-clause-looked : goal.returns-clause-looked
returns-clause-looked g c =
    let looked = g.P.Progress.looked for_verdict in
    let old = c.args.progress.now in
    let judged = c.judge_all.new.progress in
    let reached = c.each_found_at_end.new.progress in
    some_after looked old reached c.each_undecided.new.progress
    (some_after looked old judged reached (some_after looked old c.close_open.new.progress judged c.in_ok-close_open.ensures.looked c.in_ok-listed.ensures.looked) c.in_ok-found.ensures.looked)
    c.in_ok-undecided.ensures.looked

pub each_undecided-requires : goal.each_undecided-requires
each_undecided-requires g c =
    let new = get nat_cmp c.close_open.new.granules in
    record { go_on = subst (λ (l : List ℕ). All (λ h. GoesOnAt (new h)) l) (sym c.deref-3.ensures.value) c.in_ok-listed.ensures.go_on }
