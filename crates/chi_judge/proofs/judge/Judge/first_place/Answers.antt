-- a middle end up to which they are explained stands before the next low one, and one up to which they are not is the next high one
use Rattle.std.proofs.Common.{◌≡◌, ℕ, ◌+◌, ◌-◌, ◌/◌, ◌<◌, ◌⊎◌, IsTrue, List, get_or, length, inl, inr, sym, ap, subst, ⊎_elim, arith}
use Rattle.std.proofs.lemmas.List.{get_or_default}
use Rattle.chi_trace.specs.Explains.{at, nothing}
use Rattle.chi_trace.specs.declared.operation.Operation.{Operation}
use Rattle.chi_search.proofs.Looking.{at_least_after, at_least_before, some_after}
use Rattle.chi_search.specs.Looks.{LookedAtLeast, LookedSome, Search}
use Rattle.chi_judge.specs.Reaches.{IsExplained, IsJudgeOf}
use Rattle.chi_judge.specs.Judges.{JudgeValue}
use Rattle.chi_judge.specs.Searches.{AreSeen, IsSeen}
use Rattle.chi_judge.proofs.Stopping.{place_seen}
use Rattle.chi_judge.proofs.judge.Judge.first_place.Goals as goal

-- an operation that is read ends where the one at its place does
read_end : (ops : List Operation) (i : ℕ) (read : Operation) → i < length ops → (at ops i).end ≡ (get_or ops i read).end
read_end ops i read below = ap (λ (o : Operation). o.end) (sym (get_or_default ops i read nothing below))

-- one of the first so many is seen
read_seen : (r : JudgeValue) (ops : List Operation) (count i : ℕ) (read : Operation) → ops ≡ r.kept → AreSeen r ops count → i < count → i < length ops
    → (trace : List Operation) (n w : ℕ) → IsJudgeOf trace n w r → IsSeen r (get_or ops i read).end
read_seen r ops count i read kept seen first below trace n w is =
    subst (IsSeen r) (read_end ops i read below) (place_seen r ops count i kept seen first below trace n w is)

-- what was said before more states were looked at, or after them
module _ {P A B : Type 0} (looked : Search → P → ℕ → Type 0) (old middle new : P) (budget : ℕ) where
  said_before : A ⊎ (B × LookedAtLeast looked old middle budget) → LookedSome looked middle new → A ⊎ (B × LookedAtLeast looked old new budget)
  said_before (inl is) more = inl is
  said_before (inr (so, least)) more = inr (so, at_least_before looked old middle new budget least more)

  said_after : LookedSome looked old middle → A ⊎ (B × LookedAtLeast looked middle new budget) → A ⊎ (B × LookedAtLeast looked old new budget)
  said_after more (inl is) = inl is
  said_after more (inr (so, least)) = inr (so, at_least_after looked old middle new budget more least)

pub loop-low-preserved-then-branch : goal.loop-low-preserved-then-branch
loop-low-preserved-then-branch g c =
    let looked = g.P.Progress.looked in
    let old = c.args.progress.now in
    let ops = c.args.ops.now in
    let middle = c.loop-low.low + (c.loop-low.high - c.loop-low.low) / 2 in
    let bound = c.loop-low.invariant.within in
    let first : middle < c.args.count = omega (arith, bound) in
    let below : middle < length ops = omega (arith, bound) in
    record {
      order = omega arith;
      within = c.loop-low.invariant.within;
      explained = λ trace n w is. said_after looked old c.loop-low.progress c.is_explained.new.progress c.args.budget c.loop-low.invariant.looked
          (⊎_elim
          (λ explained. inl (λ i next.
          let place : middle ≡ i = omega (arith, next) in
          subst (λ (j : ℕ). IsExplained (at ops j).end trace n w) place
          (subst (λ (end : ℕ). IsExplained end trace n w) (sym (read_end ops middle c.index-ops-middle.result below)) explained)))
          inr
          (c.in_ok-is_explained.ensures.explained c.if-branch.true trace n w is
          (read_seen c.args.self.now ops c.args.count middle c.index-ops-middle.result c.requires.kept c.requires.seen first below trace n w is)));
      unexplained = λ trace n w is under. said_before looked old c.loop-low.progress c.is_explained.new.progress c.args.budget (c.loop-low.invariant.unexplained trace n w is under)
          c.in_ok-is_explained.ensures.looked;
      looked = some_after looked old c.loop-low.progress c.is_explained.new.progress c.loop-low.invariant.looked c.in_ok-is_explained.ensures.looked;
    }

pub loop-low-preserved : goal.loop-low-preserved
loop-low-preserved g c =
    let looked = g.P.Progress.looked in
    let old = c.args.progress.now in
    let ops = c.args.ops.now in
    let middle = c.loop-low.low + (c.loop-low.high - c.loop-low.low) / 2 in
    let bound = c.loop-low.invariant.within in
    let first : middle < c.args.count = omega (arith, bound) in
    let below : middle < length ops = omega (arith, bound) in
    record {
      order = omega arith;
      within = omega (arith, bound);
      explained = λ trace n w is. said_before looked old c.loop-low.progress c.is_explained.new.progress c.args.budget (c.loop-low.invariant.explained trace n w is)
          c.in_ok-is_explained.ensures.looked;
      unexplained = λ trace n w is under. said_after looked old c.loop-low.progress c.is_explained.new.progress c.args.budget c.loop-low.invariant.looked
          (⊎_elim
          (λ none. inl (λ explained. none (subst (λ (end : ℕ). IsExplained end trace n w) (read_end ops middle c.index-ops-middle.result below) explained)))
          inr
          (c.in_ok-is_explained.ensures.unexplained c.if-branch.false trace n w is
          (read_seen c.args.self.now ops c.args.count middle c.index-ops-middle.result c.requires.kept c.requires.seen first below trace n w is)));
      looked = some_after looked old c.loop-low.progress c.is_explained.new.progress c.loop-low.invariant.looked c.in_ok-is_explained.ensures.looked;
    }

pub returns-clause-explained : goal.returns-clause-explained
returns-clause-explained g c trace n w is =
    let same : c.loop-low.low ≡ c.loop-low.high = omega arith in
    subst (λ (place : ℕ). ((i : ℕ) → i + 1 ≡ place → IsExplained (at c.args.ops.now i).end trace n w) ⊎ (IsTrue c.args.undecided × LookedAtLeast g.P.Progress.looked c.args.progress.now c.loop-low.progress c.args.budget)) same
    (c.loop-low.invariant.explained trace n w is)
