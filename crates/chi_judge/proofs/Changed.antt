-- operations of which one was answered otherwise start and end as before
use Rattle.std.proofs.Common.{◌≡◌, ℕ, ◌<◌, ◌≤◌, ◌==◌, Bool, true, false, List, All, Option, length, length-set, refl, sym, ap, subst, arith, eqb-true}
use Rattle.std.proofs.lemmas.Bool.{eqb-false}
use Rattle.std.proofs.lemmas.List.{get_or-set_other, get_or-set_same}
use Rattle.std.proofs.lemmas.List.Elements.{All-set}
use Rattle.chi_lanes.specs.declared.reply.Reply.{Reply}
use Rattle.chi_search.specs.Frontiers.{CanBeTold, FrontierValue, MayBeTold}
use Rattle.chi_trace.specs.Explains.{at, nothing}
use Rattle.chi_trace.specs.declared.operation.Operation.{Operation}
use Rattle.chi_judge.specs.Judges.{LiesWithin}
use Rattle.chi_judge.specs.Legal.{answered_by, with_reply}

module _ (ops : List Operation) (place : ℕ) (reply : Option Reply) (within : place < length ops) where
  long : length (with_reply ops place reply) ≡ length ops
  long = length-set ops place (answered_by (at ops place) reply)

  same_end : (i : ℕ) → (at (with_reply ops place reply) i).end ≡ (at ops i).end
  same_end i = by_test (i == place) refl
    where
      by_test : (b : Bool) → (i == place) ≡ b → (at (with_reply ops place reply) i).end ≡ (at ops i).end
      by_test true is =
          let here : i ≡ place = eqb-true i place is in
          subst (λ (n : ℕ). (at (with_reply ops place reply) n).end ≡ (at ops n).end) (sym here)
          (ap (λ (o : Operation). o.end) (get_or-set_same ops place (answered_by (at ops place) reply) nothing within))
      by_test false is = ap (λ (o : Operation). o.end) (get_or-set_other ops place i (answered_by (at ops place) reply) nothing (eqb-false i place is))

  pub within_with : All LiesWithin ops → All LiesWithin (with_reply ops place reply)
  within_with all = All-set LiesWithin ops place (answered_by (at ops place) reply) (all place nothing within) all

  pub told_with : (f : FrontierValue) → MayBeTold f ops → MayBeTold f (with_reply ops place reply)
  told_with f may = record {
    sorted = (
      λ i j from below.
          let first = same_end i in
          let second = same_end j in
          let sorted = may.sorted.0 i j from (omega (arith, below, long)) in
          omega (arith, first, second, sorted),
      All-set (λ (op : Operation). op.start ≤ op.end) ops place (answered_by (at ops place) reply) (may.sorted.1 place nothing within) may.sorted.1,
    );
    each = All-set (CanBeTold f) ops place (answered_by (at ops place) reply)
        (let can = may.each place nothing within in record { lasting = can.lasting; starts = can.starts; ends = can.ends }) may.each;
  }
