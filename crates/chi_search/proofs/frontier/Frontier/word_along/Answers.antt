-- the word from one position more
use Rattle.std.proofs.Common.{◌≡◌, ℕ, ◌+◌, ◌<◌, ◌≤◌, List, All, length, Some, take, take_all, subst, sym, ap, ◌∙◌, arith, inl, inr}
use Rattle.std.specs.List.{Contains}
use Rattle.std.specs.Prelude.{slice_get}
use Rattle.chi_trace.specs.declared.operation.Operation.{Operation}
use Rattle.chi_trace.specs.Granules.{Play}
use Rattle.chi_search.specs.Frontiers.{FrontierValue}
use Rattle.chi_search.specs.Positions.{Position, position_of}
use Rattle.chi_search.specs.StateSets.{positions}
use Rattle.chi_search.proofs.Elements.{SomeOf, read_more, some_more}
use Rattle.chi_search.proofs.frontier.Frontier.word_along.Goals as goal

pub loop-place-preserved : goal.loop-place-preserved
loop-place-preserved c all some =
    elim ((some_more P (take c.loop-place.place c.args.self.now.positions) q).0 (subst (SomeOf P) (read_more c.args.self.now.positions c.loop-place.place q read) some)) [
      | inl earlier ↦ c.loop-place.invariant all earlier
      | inr here ↦
          c.played.ensures.unfit c.in_default.is (subst (λ (ops : List Operation). All (λ i. i < length ops) c.args.order.now) (sym same) all)
          (subst (λ (ops : List Operation). Play ops q.word c.args.order.now) (sym same) here)
    ]
  where
    q : Position
    q = position_of c.read.new.to

    P : Position → Type 0
    P p = Play c.args.self.now.operations p.word c.args.order.now

    same : c.deref.result.now ≡ c.args.self.now.operations
    same = c.deref.ensures.value ∙ ap (λ (f : FrontierValue). f.operations) c.self.view_is

    view : positions c.self.inside.states ≡ c.args.self.now.positions
    view = ap (λ (f : FrontierValue). f.positions) c.self.view_is

    read : slice_get c.args.self.now.positions c.loop-place.place ≡ Some q
    read = subst (λ (ps : List Position). slice_get ps c.loop-place.place ≡ Some q) view c.in_ok-read.ensures

pub returns-clause-none : goal.returns-clause-none
returns-clause-none c _ all v (p, has, plays, last) =
    c.loop-place.invariant all
    (p, subst (λ ps. Contains ps p) (sym (take_all c.loop-place.place c.args.self.now.positions whole)) has, plays)
  where
    whole : length c.args.self.now.positions ≤ c.loop-place.place
    whole = omega (arith, ap (λ (f : FrontierValue). length f.positions) c.self.view_is, c.loop-place-test.false, c.count-place-end.ensures)
