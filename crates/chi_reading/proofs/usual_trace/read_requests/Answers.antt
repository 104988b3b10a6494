-- one element after another, and the end of the list
use Rattle.std.proofs.Common.{◌≡◌, ◌+◌, ◌-◌, ◌<◌, ◌≤◌, length, List, ◌∷◌, None, Some, arith, sym, ap, ◌∙◌}
use Rattle.json.specs.Json.{after_end_array, value}
use Rattle.json.specs.Token.{Token, begin_array}
use Rattle.json.proofs.Grammar.{after_end_array-shorter}
use Rattle.serde_json.specs.Data.{item, no_items}
use Rattle.serde_json.specs.Events.{items_len}
use Rattle.serde_json.specs.Read.{converted, of_json}
use Rattle.chi_json.specs.Flat.{flat_data}
use Rattle.chi_json.proofs.FlatReading.{array_read, item_read, items_over}
use Rattle.chi_reading.specs.Requests.{completed_of}
use Rattle.chi_reading.proofs.Joined.{after, all_read, completed_so, none_joined, one_read}
use Rattle.chi_reading.proofs.usual_trace.read_requests.Goals as goal

pub requests-init : goal.requests-init
requests-init c =
    let s = c.begins_list.new.reader in record {
      n = length s;
      enough = omega arith;
      most = omega arith;
      all = λ rest. rest;
      read = λ rest r is. is;
      completed = λ rest. sym (ap (λ f. after f (completed_of 0 c.args.region rest)) c.none-found.ensures ∙ none_joined (completed_of 0 c.args.region rest));
      counted = λ rest. let is : items_len rest ≡ 0 + items_len rest = omega arith in is;
      few = omega arith;
    }

pub requests-preserved : goal.requests-preserved
requests-preserved c =
    let l = c.requests in
    let n = l.invariant.n in
    let going : (after_end_array l.reader ≡ None) × (c.take_end_array.new.self ≡ l.reader) = grind arith in
    let r = c.next_object.new.reader in
    let d = flat_data c.in_ok-object.object in
    let lesser : length r < length c.take_end_array.new.self = c.in_ok-object.ensures.shorter in
    let less : length r < length l.reader = omega (arith, ap (λ (ts : List Token). length ts) going.1) in
    let enough : length l.reader ≤ n = l.invariant.enough in
    let most : n ≤ length c.begins_list.new.reader = l.invariant.most in
    let few : l.place < 1048576 = omega (arith, l.invariant.few, c.if-place-eq-MOST_OPERATIONS.false) in
    let some : 0 < n = omega arith in
    let deep : 0 < 125 = omega arith in
    let here = ap (λ (ts : List Token). converted of_json (value 125 ts)) (sym going.1) ∙ c.in_ok-object.ensures.value 125 deep in
    let more = c.in-Ok.ensures.ok in record {
      n = n - 1;
      enough = omega arith;
      most = omega arith;
      all = λ rest. l.invariant.all (item d rest);
      read = λ rest s is. l.invariant.read (item d rest) s (item_read (value 125) n l.reader r s d rest some going.0 here is);
      completed = λ rest. l.invariant.completed (item d rest) ∙ one_read l.place c.args.region d _ more.0 _ (completed_so l.place c.args.region d c.in_ok-stated.stated c.in_ok-stated.ensures ∙ more.1) more.2 rest;
      counted = λ rest. let is : l.place + items_len (item d rest) ≡ l.place + 1 + items_len rest = omega arith in l.invariant.counted (item d rest) ∙ is;
      few = omega arith;
    }

pub returns-clause-value : goal.returns-clause-value
returns-clause-value c =
    let l = c.requests in
    let ended : after_end_array l.reader ≡ Some c.take_end_array.new.self = grind arith in
    let begun : c.args.reader.now ≡ begin_array ∷ c.begins_list.new.reader = c.begins_list.ensures c.if-not-begins_list.false in
    let some : 0 < 126 = omega arith in
    let ds = l.invariant.all no_items in (
      ds,
      array_read 126 c.args.reader.now c.begins_list.new.reader c.take_end_array.new.self ds some begun
          (l.invariant.read no_items c.take_end_array.new.self (items_over (value 125) l.invariant.n l.reader c.take_end_array.new.self l.invariant.enough ended)),
      all_read l.place c.args.region l.found ds (l.invariant.completed no_items) (l.invariant.counted no_items) l.invariant.few,
    )

pub returns-clause-shorter : goal.returns-clause-shorter
returns-clause-shorter c =
    let l = c.requests in
    let ended : after_end_array l.reader ≡ Some c.take_end_array.new.self = grind arith in
    let begun : c.args.reader.now ≡ begin_array ∷ c.begins_list.new.reader = c.begins_list.ensures c.if-not-begins_list.false in
    let less = after_end_array-shorter l.reader c.take_end_array.new.self ended in
    omega (arith, less, l.invariant.enough, l.invariant.most, ap (λ (ts : List Token). length ts) begun)
