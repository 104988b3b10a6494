-- of a granule the request of a number is taken out, and of no other one
use Rattle.std.proofs.Common.{◌≡◌, ◌==◌, nat_eq, not, [], None, Some, cond, filter, sym, ap, ◌∙◌, arith, eqb-true, rules, true}
use Rattle.std.proofs.lemmas.Fn.{filter_same}
use Rattle.std.proofs.lemmas.List.{nil_from_length}
use Rattle.std.specs.HashMap.{get}
use Rattle.chi_events.specs.declared.starts.Start.{Start}
use Rattle.chi_events.proofs.GranuleStarts.{emptied, shortened}
use Rattle.chi_events.proofs.starts.remove_start.Goals as goal

pub returns-else-is_empty : goal.returns-else-is_empty
returns-else-is_empty c g =
    let old = c.args.starts.now in
    let before = c.in-Some.of_granule.now in
    let kept : c.retain.new.self.items ≡ filter (λ start. not (start.id == c.args.id)) before.items = filter_same _ _ _ (λ x b f' k. search rules) _ _ c.retain.ensures.filtered in
    let there : get nat_eq old c.args.granule ≡ Some before = search rules in
    let own : (c.args.granule == g) ≡ true → get nat_eq old g ≡ Some before = λ here. ap (get nat_eq old) (sym (eqb-true c.args.granule g here)) ∙ there in
    let is : get nat_eq (c.get_mut.follows.lender c.retain.new.self) g ≡ cond (c.args.granule == g) (Some c.retain.new.self) (get nat_eq old g) = search rules in
    shortened (c.args.granule == g) (get nat_eq old g) (get nat_eq (c.get_mut.follows.lender c.retain.new.self) g) before (filter (λ (start : Start). not (start.id == c.args.id))) own c.retain.new.self is kept

pub returns-then-is_empty : goal.returns-then-is_empty
returns-then-is_empty c g =
    let old = c.args.starts.now in
    let before = c.in-Some.of_granule.now in
    let kept : c.retain.new.self.items ≡ filter (λ start. not (start.id == c.args.id)) before.items = filter_same _ _ _ (λ x b f' k. search rules) _ _ c.retain.ensures.filtered in
    let there : get nat_eq old c.args.granule ≡ Some before = search rules in
    let own : (c.args.granule == g) ≡ true → get nat_eq old g ≡ Some before = λ here. ap (get nat_eq old) (sym (eqb-true c.args.granule g here)) ∙ there in
    let is : get nat_eq c.remove.new.self g ≡ cond (c.args.granule == g) None (get nat_eq old g) = search rules in
    let none : [] ≡ c.retain.new.self.items = sym (nil_from_length c.retain.new.self.items (omega (arith, c.retain.new.self.ok, eqb-true c.retain.new.self.len 0 (sym c.is_empty.ensures ∙ c.if-is_empty.true)))) in
    emptied (c.args.granule == g) (get nat_eq old g) (get nat_eq c.remove.new.self g) before (filter (λ (start : Start). not (start.id == c.args.id))) own is (none ∙ kept)
