-- one object more, and the end of the list
use Rattle.std.proofs.Common.{◌≡◌, ◌-◌, ◌<◌, ◌≤◌, length, List, None, Some, arith, ap, sym, ◌∙◌}
use Rattle.json.specs.Json.{after_end_array, value}
use Rattle.json.specs.Token.{Token}
use Rattle.serde_json.specs.Data.{Data, Items, item, no_items}
use Rattle.serde_json.specs.Read.{converted, of_json}
use Rattle.serde_json.specs.View.{view}
use Rattle.chi_json.proofs.FlatReading.{before-none, before-push, item_read, items_over}
use Rattle.chi_json.proofs.next.read_objects.Goals as goal

pub elements-preserved : goal.elements-preserved
elements-preserved c =
    let l = c.elements in
    let n = l.invariant.n in
    let going : (after_end_array l.reader ≡ None) × (c.take_end_array.new.self ≡ l.reader) = grind arith in
    let r = c.next_object.new.reader in
    let v = c.in_ok-value.value in
    let lesser : length r < length c.take_end_array.new.self = c.in_ok-object.ensures.shorter in
    let less : length r < length l.reader = omega (arith, ap (λ (ts : List Token). length ts) going.1) in
    let enough : length l.reader ≤ n = l.invariant.enough in
    let most : n ≤ length c.args.reader.now = l.invariant.most in
    let some : 0 < n = omega arith in record {
      n = n - 1;
      enough = omega arith;
      most = omega arith;
      read = λ depth deep rest s is.
          let here = ap (λ (ts : List Token). converted of_json (value depth ts)) (sym going.1) ∙ (c.in_ok-object.ensures.value depth deep ∙ ap (λ (d : Data). Some (d, r)) (sym c.in_ok-value.ensures)) in
          l.invariant.read depth deep (item (view v) rest) s (item_read (value depth) n l.reader r s (view v) rest some going.0 here is)
          ∙ ap (λ (ds : Items). Some (ds, s)) (sym (before-push l.list.items _ v rest c.in-Ok.ensures.items));
    }

pub returns-clause-value : goal.returns-clause-value
returns-clause-value c depth deep =
    let l = c.elements in
    let s = c.take_end_array.new.self in
    let ended : after_end_array l.reader ≡ Some s = grind arith in
    l.invariant.read depth deep no_items s (items_over (value depth) l.invariant.n l.reader s l.invariant.enough ended) ∙ ap (λ (ds : Items). Some (ds, s)) (before-none l.list.items)
