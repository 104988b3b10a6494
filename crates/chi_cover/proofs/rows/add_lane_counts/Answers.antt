-- one lane more
use Rattle.std.proofs.Common.{◌≡◌, ◌==◌, ◌%◌, ℕ, Bool, List, [], ◌∷◌, ◌++◌, append-nil, codes, decimal, filter, flat_map, sym, ap, ◌∙◌, arith}
use Rattle.std.proofs.lemmas.Grind.{flat_map-append}
use Rattle.std.specs.List.{range_with_len}
use Rattle.chi_cover.specs.Bins.{lanes_of}
use Rattle.chi_cover.specs.Counts.{count_in}
use Rattle.chi_cover.specs.Texts.{lane_text}
use Rattle.chi_cover.proofs.Lists.{kept_more, kept_same}
use Rattle.chi_cover.proofs.rows.add_lane_counts.Goals.{then-is_aligned+in_ok-add_parts, else-is_aligned}
use Rattle.chi_cover.proofs.rows.add_lane_counts.Goals as goal

pub loop-lane-preserved : goal.loop-lane-preserved
loop-lane-preserved c =
    let f : ℕ → List ℕ = lane_text (count_in c.args.covered.now) c.args.kind c.args.endian c.args.len in
    let p : ℕ → Bool = λ lane. lane % c.args.len == 0 in
    let lane = c.loop-lane.lane in
    let lanes : List ℕ = filter p (range_with_len 0 lane) in
    elim c.if-is_aligned.branch [
      | then-is_aligned+in_ok-add_parts w ↦
          kept_more (flat_map f) (f lane) c.args.to.now.items p lane c.loop-lane.to.items c.if-is_aligned.to.items
          (flat_map-append f lanes (lane ∷ []) ∙ ap (λ l. flat_map f lanes ++ l) (append-nil (f lane)))
          (sym c.is_aligned.ensures ∙ w.if-is_aligned.true) c.loop-lane.invariant
          (ap (λ v. v.items) w.to-is ∙ (w.in_ok-add_parts.ensures ∙ ap (λ t. c.loop-lane.to.items ++ (codes " " ++ t)) (append-nil (decimal w.count.result) ∙ ap decimal w.count.ensures)))
      | else-is_aligned w ↦
          kept_same (flat_map f) _ p lane _ _ (sym c.is_aligned.ensures ∙ w.if-is_aligned.false) c.loop-lane.invariant (ap (λ v. v.items) w.to-is)
    ]

pub returns : goal.returns
unfolding lanes_of
returns c =
    let whole : c.loop-lane.lane ≡ 16 = omega (arith, c.loop-lane-test.false) in rw whole at c.loop-lane.invariant
