-- the byte and the bit of one more lane
use Rattle.std.proofs.Common.{◌≡◌, ℕ, ◌+◌, ◌<◌, ◌≢◌, Bool, true, false, not, Option, is_some, if◌then◌else◌, List, length, arith, refl, ap, ◌∙◌, below_more, get_or-set_other, get_or-set_same}
use Rattle.std.proofs.Math.ListN.{length-set}
use Rattle.std.proofs.lemmas.List.FromFn.{fill_by_all}
use Rattle.std.specs.Option.{unwrap_or}
use Rattle.chi_flit_text.specs.Lanes.{byte_of, lane_of, unknown_of}
use Rattle.chi_flit_text.proofs.MaskSoFar.{left, none_yet, put}
use Rattle.chi_flit_text.proofs.lanes.lanes.Goals as goal
use Rattle.chi_flit_text.proofs.lanes.lanes.Goals.{then-is_none, else-is_none}

-- the bit of a lane, by whether the lane is not known
abbrev bit_by : Bool → ℕ
bit_by is_none = if is_none then 1 else 0

bit_of : (digits : List ℕ) (i : ℕ) (lane : Option ℕ) (is_none : Bool) → lane ≡ lane_of digits i → is_some lane ≡ not is_none → unknown_of digits i ≡ bit_by is_none
bit_of digits i lane true is known = rw (← is, known) refl
bit_of digits i lane false is known = rw (← is, known) refl

pub loop-i-init : goal.loop-i-init
loop-i-init c = record {
  sized = refl;
  each = λ k h. omega (arith, h);
  mask = none_yet _;
}

pub loop-i-preserved : goal.loop-i-preserved
loop-i-preserved c =
    let place : ℕ = c.args.first + c.loop-i.i in
    let i = c.loop-i.i in
    let so_far = c.loop-i.unknown in
    let mask = c.loop-i.invariant.mask in
    let f : ℕ → ℕ = λ j. unknown_of c.args.digits.now (c.args.first + j) in
    let bit : f i ≡ bit_by c.is_none.result = bit_of c.args.digits.now place c.lane-lane.result c.is_none.result c.lane-lane.ensures c.is_none.ensures in
    record {
      sized = rw length-set c.loop-i.invariant.sized;
      each =
          below_more _ _
          (λ k h. let ne : k ≢ c.loop-i.i = omega arith in rw get_or-set_other (c.loop-i.invariant.each k h))
          (let sized = c.loop-i.invariant.sized in
          let lt : c.loop-i.i < length c.loop-i.lanes = omega arith in rw get_or-set_same (c.unwrap_or.ensures ∙ ap (λ o. unwrap_or o 0) c.lane-lane.ensures));
      mask = elim c.if-is_none.branch [
        | then-is_none w ↦ put f i so_far c.if-is_none.unknown mask (bit ∙ ap bit_by w.if-is_none.true) c.loop-i-test.true w.unknown-is
        | else-is_none w ↦ rw w.unknown-is (left f i so_far mask (bit ∙ ap bit_by w.if-is_none.false))
      ];
    }

pub returns-clause-bytes : goal.returns-clause-bytes
returns-clause-bytes c = fill_by_all (λ k. byte_of c.args.digits.now (c.args.first + k)) c.loop-i.lanes 16 0 c.loop-i.invariant.sized (λ k h. c.loop-i.invariant.each k (omega arith))
