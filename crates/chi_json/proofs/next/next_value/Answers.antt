-- the list that begins
use Rattle.std.proofs.Common.{◌≡◌, ◌-◌, ◌<◌, ◌∷◌, Some, arith, ap, sym, ◌∙◌}
use Rattle.json.specs.Reads.{token_of}
use Rattle.json.specs.Token.{begin_array}
use Rattle.serde_json.specs.Data.{Data}
use Rattle.serde_json.specs.View.{items_view}
use Rattle.serde_json.proofs.Views.{view-Array}
use Rattle.chi_json.proofs.FlatReading.{array_read}
use Rattle.chi_json.proofs.next.next_value.Goals as goal

pub returns-in_ok-list-in-BeginArray-clause-value : goal.returns-in_ok-list-in-BeginArray-clause-value
returns-in_ok-list-in-BeginArray-clause-value c depth deep =
    let some : 0 < depth = omega arith in
    let inner : 0 < depth - 1 = omega arith in
    let list = c.in_ok-list-in-BeginArray.list in
    let begun : c.args.reader.now ≡ begin_array ∷ c.next.new.self = c.in_ok-token.ensures.value ∙ ap (λ k. token_of k ∷ c.next.new.self) c.in-BeginArray.is in
    array_read depth _ _ _ (items_view list.items) some begun (c.in_ok-list-in-BeginArray.ensures.value (depth - 1) inner) ∙ ap (λ (d : Data). Some (d, c.read_objects.new.reader)) (sym (view-Array list))
