-- the last of an order that the search finds once it was told what was known by the time
use Rattle.std.proofs.Common.{◌≡◌, ℕ, ◌-◌, ◌<◌, List, ◌++◌, All, IfSome, Option, None, drop, inl, inr, length, length-drop, map, take, sym, ap, ap₂, subst, ◌∙◌, arith}
use Rattle.std.proofs.lemmas.List.{drop-map, length-map, take_all}
use Rattle.std.proofs.lemmas.List.Elements.{All-drop, All-take}
use Rattle.chi_trace.specs.declared.operation.Operation.{Operation}
use Rattle.chi_trace.specs.AtPlaces.{at_places}
use Rattle.chi_trace.specs.Cuts.{cut}
use Rattle.chi_trace.specs.Explains.{at}
use Rattle.chi_search.specs.declared.order.Found.{Found}
use Rattle.chi_search.specs.Found.{IfNothing, IfOrder}
use Rattle.chi_search.specs.Frontiers.{EndsWith, Follows, FrontierValue, MayBeTold}
use Rattle.chi_search.proofs.Judging.{IsFrom, LeadsNowhere}
use Rattle.chi_judge.specs.Judges.{LiesWithin}
use Rattle.chi_judge.proofs.Cutting.{cut_told, cut_within}
use Rattle.chi_judge.proofs.Ending.{left_places}
use Rattle.chi_judge.proofs.search.end_of_order_by.Goals as goal

-- the search that was told more follows it
abbrev Follow : FrontierValue → List Operation → FrontierValue → Type 0
Follow before more f = (words : List ℕ) (told : List Operation) → Follows words told before → Follows words (told ++ more) f

pub returns-in_default-clause-none : goal.returns-in_default-clause-none
returns-in_default-clause-none g c none =
    let before = c.args.before.now in
    let more = c.args.more.now in
    let known = c.deref.ensures.value ∙ c.in_ok-known.ensures in
    inr (λ may within.
    absurd (c.in_ok-after.ensures.refused c.in_default.is (subst (MayBeTold before) (sym known) (cut_told before c.args.time more may)) (subst (All LiesWithin) (sym known) (cut_within c.args.time more within))))

pub returns-in-Nothing-clause-none : goal.returns-in-Nothing-clause-none
returns-in-Nothing-clause-none g c none =
    let known = c.deref.ensures.value ∙ c.in_ok-known.ensures in
    let told_more : Follow c.args.before.now (cut c.args.time c.args.more.now) c.in-Some.after =
    subst (λ (more : List Operation). Follow c.args.before.now more c.in-Some.after) known
    (subst (λ (o : Option FrontierValue). IfSome o (Follow c.args.before.now c.deref.result.now)) c.in-Some.is c.in_ok-after.ensures.follows) in
    let nowhere = subst (λ (f : Found). IfNothing f (LeadsNowhere c.in-Some.after None)) c.in-Nothing.is c.in_ok-order.ensures.nothing in
    inl (λ words told follows v leads. nowhere words (told ++ cut c.args.time c.args.more.now) (told_more words told follows) v leads tt)

pub operations_at-requires : goal.operations_at-requires
operations_at-requires g c =
    let ops = c.in-Some.after.operations in
    let order = c.in-Order.order.items in
    let from = c.saturating_sub-from.result in
    let some = subst (λ (f : Found). IfOrder f (IsFrom c.in-Some.after None)) c.in-Order.is c.in_ok-order.ensures.order in
    let inside : List ℕ → Type 0 = All (λ (i : ℕ). i < length c.operations.result.now) in
    let all : inside c.deref-in-Order.result.now =
    subst inside (sym c.deref-in-Order.ensures.value)
    (subst (λ (l : List Operation). All (λ (i : ℕ). i < length l) order) (sym c.operations.ensures) (left_places (length ops) some.0 order some.2.once)) in
    All-take (λ (i : ℕ). i < length c.operations.result.now) (length c.deref-in-Order.result.now - from) (drop from c.deref-in-Order.result.now)
    (All-drop (λ (i : ℕ). i < length c.operations.result.now) from c.deref-in-Order.result.now all)

pub returns-in-Order-clause-last : goal.returns-in-Order-clause-last
returns-in-Order-clause-last g c =
    let before = c.args.before.now in
    let known = cut c.args.time c.args.more.now in
    let known_is = c.deref.ensures.value ∙ c.in_ok-known.ensures in
    let after = c.in-Some.after in
    let order = c.in-Order.order.items in
    let given = c.deref-in-Order.result.now in
    let from = c.saturating_sub-from.result in
    let told_more : Follow before known after =
    subst (λ (more : List Operation). Follow before more after) known_is
    (subst (λ (o : Option FrontierValue). IfSome o (Follow before c.deref.result.now)) c.in-Some.is c.in_ok-after.ensures.follows) in
    let ops_is : after.operations ≡ before.operations ++ known =
    subst (λ (o : Option FrontierValue). IfSome o (λ f. f.operations ≡ before.operations ++ c.deref.result.now)) c.in-Some.is c.in_ok-after.ensures.operations
    ∙ ap (λ (l : List Operation). before.operations ++ l) known_is in
    let ends = subst (λ (f : Found). IfOrder f (λ x. (words : List ℕ) (told : List Operation) → Follows words told after → EndsWith told words (map (at after.operations) x))) c.in-Order.is c.in_ok-order.ensures.ends in
    let whole : take (length given - from) (drop from given) ≡ drop from order =
    take_all (length given - from) (drop from given) (omega (arith, length-drop from given)) ∙ ap (drop from) c.deref-in-Order.ensures.value in
    let from_is : from ≡ length (at_places (before.operations ++ known) order) - c.args.most = omega (arith, c.saturating_sub-from.ensures, c.len.ensures, length-map order (at (before.operations ++ known))) in
    record {
      order = order;
      last_is =
          c.in_ok-operations_at-in-Order.ensures
          ∙ ap₂ (λ (l : List Operation) (x : List ℕ). at_places l x) (c.operations.ensures ∙ ops_is) whole
          ∙ sym (drop-map (at (before.operations ++ known)) from order)
          ∙ ap (λ n. drop n (at_places (before.operations ++ known) order)) from_is;
      ends = λ words told follows.
          subst (λ (l : List Operation). EndsWith (told ++ known) words (map (at l) order)) ops_is (ends words (told ++ known) (told_more words told follows));
    }
