-- the effect of one operation more
use Rattle.std.proofs.Common.{◌≡◌, ℕ, ◌<◌, List, [], ◌∷◌, ◌++◌, get_or, length, subst, sym, ap, ◌∙◌, arith, inl, inr, length-append, rules}
use Rattle.std.proofs.lemmas.Bool.{cases_lt}
use Rattle.std.proofs.lemmas.List.{get_or_append_left, get_or_default, get_or_push}
use Rattle.chi_trace.specs.declared.operation.Operation.{Operation}
use Rattle.chi_trace.specs.Explains.{at, nothing}
use Rattle.chi_search.specs.declared.effect.Effect.{Effect}
use Rattle.chi_search.specs.Effects.{AreEffects, HasEffect, no_effect}
use Rattle.chi_search.proofs.effect.effects_of.Goals as goal

-- one more after those of the first k
pushed : (ops : List Operation) (effects : List Effect) (e : Effect) (k : ℕ) (op : Operation) → k < length ops → op ≡ get_or ops k op
    → length effects ≡ k → AreEffects ops effects → HasEffect op e → AreEffects ops (effects ++ e ∷ [])
pushed ops effects e k op below is long are has i within = elim (cases_lt i (length effects)) [
  | inl before ↦ subst (HasEffect (at ops i)) (sym (get_or_append_left effects (e ∷ []) no_effect i before)) (are i before)
  | inr from ↦
      let here : length effects ≡ i = omega (arith, from, within, length-append effects (e ∷ [])) in
      let read : op ≡ at ops i = is ∙ get_or_default ops k op nothing below ∙ ap (at ops) (sym long ∙ here) in
      subst (HasEffect (at ops i)) (sym (get_or_push effects e no_effect i here)) (subst (λ o. HasEffect o e) read has)
]

pub loop-op-preserved : goal.loop-op-preserved
loop-op-preserved c = record {
  are =
      subst (AreEffects c.args.ops.now) (sym c.in_ok-push.ensures.items)
      (pushed c.args.ops.now c.loop-op.effects.items c.effect_of.result c.loop-op.op-index c.op-item.result c.loop-op-test.true c.op-item.is
      c.loop-op.invariant.each c.loop-op.invariant.are c.effect_of.ensures);
  each = search rules;
}
