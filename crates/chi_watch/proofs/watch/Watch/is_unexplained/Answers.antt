-- What is found of a granule, or not, is so of the events that the watch took.
use Rattle.std.proofs.Common.{◌≡◌, ◌==◌, ◌⊎◌, ℕ, Bool, true, false, IsTrue, List, All, None, IfSome, subst}
use Rattle.std.specs.List.{list_any}
use Rattle.std.proofs.lemmas.Result.{IfOk-weaker}
use Rattle.chi_events.specs.Outstanding.{IsOpen}
use Rattle.chi_events.specs.declared.event.Event.{Event}
use Rattle.chi_watch.specs.Endings.{IsExplainable}
use Rattle.chi_watch.specs.Judged.{CanBeExplained, is_known}
use Rattle.chi_search.specs.Looks.{GrewBy, for_verdict}
use Rattle.chi_events.specs.Granules.{granule_of_request}
use Rattle.chi_watch.specs.Watches.{CanBeJudged, HasTaken, IsFound, IsUnexplained, WatchValue, granule}
use Rattle.chi_watch.proofs.Found.{found_is, not_found_is}
use Rattle.chi_watch.proofs.watch.Watch.is_unexplained.Goals as goal

abbrev IsQuietAt : WatchValue → ℕ → Type 0
IsQuietAt w g = list_any (λ p. granule_of_request p == g) w.outstanding.requests ≡ false

pub returns-clause-found : goal.returns-clause-found
returns-clause-found g c =
    let are_open = subst (λ (w : WatchValue). All (IsOpen w.outstanding.time) w.outstanding.requests) c.self.view_is c.count-count.ensures.are_open in
    IfOk-weaker c.is_found.result (λ (is : Bool). IsTrue is → IsFound c.args.self.now c.args.granule)
    (λ (is : Bool). IsTrue is → (events : List Event) → HasTaken events c.args.self.now → IsUnexplained events c.args.granule)
    (λ is found so events has. found_is c.operations_are_told.ensures c.parts_explain.ensures events c.args.self.now are_open has c.args.granule (found so))
    c.is_found.ensures.found

pub returns-clause-quiet : goal.returns-clause-quiet
returns-clause-quiet g c =
    IfOk-weaker c.is_found.result (λ (is : Bool). IsTrue is → IsFound c.args.self.now c.args.granule) (λ (is : Bool). IsTrue is → CanBeJudged c.args.self.now c.args.granule)
    (λ is found so. (found so).judged) c.is_found.ensures.found

pub returns-clause-judged : goal.returns-clause-judged
returns-clause-judged g c =
    let are_open = subst (λ (w : WatchValue). All (IsOpen w.outstanding.time) w.outstanding.requests) c.self.view_is c.count-count.ensures.are_open in
    let w = c.args.self.now in
    let here = c.args.granule in
    let whole = GrewBy (g.P.Progress.looked for_verdict) c.args.progress.now c.is_found.new.progress c.args.budget in
    IfOk-weaker c.is_found.result (λ (is : Bool). is ≡ false → IsQuietAt w here → IfSome (granule w here) (λ f. f.unknown_since ≡ None → IsExplainable f ⊎ whole))
    (λ (is : Bool). is ≡ false → IsQuietAt w here → (events : List Event) → HasTaken events w → is_known events here ≡ true → CanBeExplained events here ⊎ whole)
    (λ is none so quiet events has known. not_found_is c.operations_are_told.ensures c.granules_stand_alone.ensures whole events w are_open has here quiet (none so quiet) known)
    c.is_found.ensures.none
