-- one operation more
use Rattle.std.proofs.Common.{◌≡◌, ◌∷◌, [], ◌++◌, nat_le, filter, refl, ap, ◌∙◌, rules}
use Rattle.std.proofs.lemmas.Fn.{filter_same}
use Rattle.chi_verdict.specs.Open.{greatest}
use Rattle.chi_verdict.proofs.Counting.{most_more}
use Rattle.chi_verdict.proofs.open.most_at_once.Goals as goal

pub loop-op-init : goal.loop-op-init
unfolding greatest
loop-op-init c = record { most = refl; kept = λ time all. ap (filter (nat_le time)) c.new-ends.ensures.items }

pub loop-op-preserved : goal.loop-op-preserved
loop-op-preserved c =
    let op = c.op-item.result in
    let kept : c.retain.new.self.items ≡ filter (nat_le op.start) c.loop-op.ends.items = filter_same _ _ _ (λ x b f' k. search rules) _ _ c.retain.ensures.filtered in
    let pushed = c.in_ok-push.ensures.items ∙ ap (λ l. l ++ op.end ∷ []) kept in
    let more = most_more c.args.ops.now c.loop-op.op-index op c.loop-op.most c.max-most.result c.loop-op.ends.items c.push.new.self.items c.requires.traced c.loop-op-test.true c.op-item.is
    c.loop-op.invariant.most c.loop-op.invariant.kept pushed (search rules) in
    record { most = more.0; kept = more.1 }
