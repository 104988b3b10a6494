-- the object that begins, and its members
use Rattle.std.proofs.Common.{◌≡◌, ◌-◌, length, Some, subst, ap}
use Rattle.json.specs.Json.{members, value}
use Rattle.serde_json.specs.Data.{Members, no_members}
use Rattle.serde_json.specs.Read.{converted, of_members}
use Rattle.chi_json.specs.Flat.{flat_members, put_all}
use Rattle.chi_json.proofs.FlatReading.{object_read}
use Rattle.chi_json.proofs.next.read_object.Goals as goal

pub returns-then-begins_object-clause-value : goal.returns-then-begins_object-clause-value
returns-then-begins_object-clause-value c is none depth some =
    let begun = c.begins_object.ensures c.if-begins_object.true in
    let empty : flat_members c.args.object.now ≡ no_members = ap (λ ms. put_all ms no_members) none in
    let read = subst (λ (old : Members). converted (λ ms. of_members ms old) (members (value (depth - 1)) (length c.begins_object.new.reader) c.begins_object.new.reader) ≡ Some (flat_members c.add_members.new.object, c.add_members.new.reader)) empty (c.add_members.ensures.value is (depth - 1)) in
    object_read depth _ _ _ (flat_members c.add_members.new.object) some begun read
