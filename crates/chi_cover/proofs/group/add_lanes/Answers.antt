-- one lane more
use Rattle.std.proofs.Common.{◌≡◌, ◌==◌, ◌%◌, ℕ, Bool, [], ◌∷◌, filter, map, sym, ap, ◌∙◌, arith}
use Rattle.std.proofs.lemmas.List.{map-append}
use Rattle.std.specs.List.{range_with_len}
use Rattle.chi_cover.specs.declared.bin.Bin.{Bin}
use Rattle.chi_cover.specs.declared.bin.Bin.TheVariants.{Operand}
use Rattle.chi_cover.specs.Bins.{lanes_of}
use Rattle.chi_cover.proofs.Lists.{kept_more, kept_same}
use Rattle.chi_cover.proofs.group.add_lanes.Goals.{then-is_aligned+in_ok-push, else-is_aligned}
use Rattle.chi_cover.proofs.group.add_lanes.Goals as goal

pub loop-lane-preserved : goal.loop-lane-preserved
loop-lane-preserved c =
    let f : ℕ → Bin = Operand c.args.kind c.args.endian c.args.len in
    let p : ℕ → Bool = λ lane. lane % c.args.len == 0 in
    let lane = c.loop-lane.lane in
    elim c.if-is_aligned.branch [
      | then-is_aligned+in_ok-push w ↦
          kept_more (map f) (f lane ∷ []) c.args.to.now.items p lane c.loop-lane.to.items c.if-is_aligned.to.items (map-append f (filter p (range_with_len 0 lane)) (lane ∷ []))
          (sym c.is_aligned.ensures ∙ w.if-is_aligned.true) c.loop-lane.invariant (ap (λ v. v.items) w.to-is ∙ w.in_ok-push.ensures.items)
      | else-is_aligned w ↦
          kept_same (map f) _ p lane _ _ (sym c.is_aligned.ensures ∙ w.if-is_aligned.false) c.loop-lane.invariant (ap (λ v. v.items) w.to-is)
    ]

pub returns : goal.returns
unfolding lanes_of
returns c =
    let whole : c.loop-lane.lane ≡ 16 = omega (arith, c.loop-lane-test.false) in rw whole at c.loop-lane.invariant
