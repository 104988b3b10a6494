-- the weights of the entries
use Rattle.std.proofs.Common.{rules, arith, ◌≡◌, ◌∙◌, ap, sym, refl, length, None, Some, true, false, ℕ, List}
use Rattle.std.specs.Prelude.{is_some}
use Rattle.std.specs.List.{filter_map, list_all}
use Rattle.std.proofs.lemmas.Result.{err_from_is_err_and}
use Rattle.std.proofs.lemmas.Iterator.Consumers.{YieldsList-end, YieldsList-turn}
use Rattle.chi_stimulus.specs.Named.{entry_of, weight_of, weights_of}
use Rattle.chi_stimulus.proofs.Naming.{all_after, comma_parts, mix_is, mix_refused, weights_after}
use Rattle.chi_stimulus.proofs.mix.Mix.named.Goals as goal

pub entries-init : goal.entries-init
unfolding weight_of
entries-init c = record { weights = refl; entries = refl; small = search rules }

pub returns-in_err-kind-clause-named : goal.returns-in_err-kind-clause-named
returns-in_err-kind-clause-named c =
    let split = c.split-part-items.ensures in
    let parts = comma_parts c.args.text.now _ _ c.into_iter-part-iterator.ensures.into_iter_gives split.text split.has_more split.pattern in
    let turn = YieldsList-turn parts c.entries.yielded _ c.entries.yielded_by _ _ c.in-Some.part c.in-Some.is c.next.ensures.steps in
    let none : entry_of c.in-Some.part.now ≡ None = grind arith in
    let failed = err_from_is_err_and c.from_residual.result c.from_residual.ensures.1 in
    failed.1 ∙ sym (mix_refused c.args.text.now c.in-Some.part.now (length c.entries.yielded) turn none)

pub entries-preserved : goal.entries-preserved
entries-preserved c =
    let is : entry_of c.in-Some.part.now ≡ Some c.in_ok-kind.field-0 = grind arith in
    record {
      weights = weights_after c.entries.yielded c.in-Some.part c.in_ok-kind.field-0 c.entries.weights is (search rules) c.entries.invariant.weights;
      entries = all_after c.entries.yielded c.in-Some.part c.in_ok-kind.field-0 is c.entries.invariant.entries;
      small = search rules;
    }

pub returns-then-eq-clause-named : goal.returns-then-eq-clause-named
returns-then-eq-clause-named c =
    let split = c.split-part-items.ensures in
    let parts = comma_parts c.args.text.now _ _ c.into_iter-part-iterator.ensures.into_iter_gives split.text split.has_more split.pattern in
    let end = YieldsList-end parts c.entries.yielded _ c.entries.yielded_by _ _ c.in-None.is c.next.ensures.steps in
    let all = ap (list_all (λ p. is_some (entry_of p))) (sym end.0) ∙ c.entries.invariant.entries in
    let are = c.entries.invariant.weights ∙ ap (λ (ps : List (List ℕ)). weights_of (filter_map entry_of ps)) end.0 in
    sym (mix_is c.args.text.now c.entries.weights true all are (sym c.if-eq.true ∙ c.eq.ensures))

pub returns-clause-named : goal.returns-clause-named
returns-clause-named c =
    let split = c.split-part-items.ensures in
    let parts = comma_parts c.args.text.now _ _ c.into_iter-part-iterator.ensures.into_iter_gives split.text split.has_more split.pattern in
    let end = YieldsList-end parts c.entries.yielded _ c.entries.yielded_by _ _ c.in-None.is c.next.ensures.steps in
    let all = ap (list_all (λ p. is_some (entry_of p))) (sym end.0) ∙ c.entries.invariant.entries in
    let are = c.entries.invariant.weights ∙ ap (λ (ps : List (List ℕ)). weights_of (filter_map entry_of ps)) end.0 in
    sym (mix_is c.args.text.now c.entries.weights false all are (sym c.if-eq.false ∙ c.eq.ensures))
