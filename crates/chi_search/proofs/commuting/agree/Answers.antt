-- one lane more
use Rattle.std.proofs.Common.{◌≡◌, ℕ, ◌/◌, ◌^◌, bit_and, slice_index, sym, ap, ◌∙◌, below_more, arith}
use Rattle.std.specs.Int.{bit_at}
use Rattle.std.proofs.lemmas.Nat.{and_mask}
use Rattle.std.proofs.lemmas.Nat.Bits.{bit_at_and}
use Rattle.chi_search.proofs.commuting.agree.Goals as goal
use Rattle.chi_search.proofs.commuting.agree.Goals.{else-both-lane-eq1-via-then-both-lane-eq1+else-lanes-lane, else-both-lane-eq1-via-else-both-lane-eq1}

-- what the code finds of two bits that are both 1
both_bits : (a b k : ℕ) → bit_at a k ≡ 1 → bit_at b k ≡ 1 → bit_and (bit_and a b / 2 ^ k) 1 ≡ 1
both_bits a b k is_a is_b = and_mask (bit_and a b / 2 ^ k) 1 ∙ bit_at_and a b k ∙ rw (is_a, is_b) (omega arith)

pub loop-lane-preserved : goal.loop-lane-preserved
loop-lane-preserved c =
    let op = c.args.access.now in
    let other = c.args.other.now in
    below_more (λ k. bit_at op.enables k ≡ 1 → bit_at other.enables k ≡ 1 → slice_index op.lanes k ≡ slice_index other.lanes k)
    c.loop-lane.lane c.loop-lane.invariant (elim c.else-both-lane-eq1.branch [
      | else-both-lane-eq1-via-then-both-lane-eq1+else-lanes-lane w ↦ λ _ _.
          ap (λ lanes. slice_index lanes c.loop-lane.lane) (sym c.lanes-lanes.ensures) ∙ w.if-lanes-lane.false
          ∙ ap (λ lanes. slice_index lanes c.loop-lane.lane) c.lanes-other_lanes.ensures
      | else-both-lane-eq1-via-else-both-lane-eq1 w ↦ λ on other_on.
          absurd (w.if-both-lane-eq1.false (both_bits c.enables.result c.enables-2.result c.loop-lane.lane
          (ap (λ n. bit_at n c.loop-lane.lane) c.enables.ensures.value ∙ on)
          (ap (λ n. bit_at n c.loop-lane.lane) c.enables-2.ensures.value ∙ other_on)))
    ])
