-- the objects so far, and then those to come
use Rattle.std.proofs.Common.{◌≡◌, ℕ, ◌<◌, ◌≤◌, length, List, Some}
use Rattle.json.specs.Json.{items, value}
use Rattle.json.specs.Token.{Token}
use Rattle.serde_json.specs.Data.{Items}
use Rattle.serde_json.specs.Read.{converted, of_items}
use Rattle.chi_json.proofs.FlatReading.{before}
use Rattle.chi_json.proofs.next.read_objects.Given as goal

abbrev pub invariant-elements : goal.invariant-elements
invariant-elements l = record {
  n : ℕ;
  enough : length l.reader ≤ n;
  most : n ≤ length l.initial.reader;
  read : (depth : ℕ) → 0 < depth → (rest : Items) (r : List Token) → converted of_items (items (value depth) n l.reader) ≡ Some (rest, r)
      → converted of_items (items (value depth) (length l.initial.reader) l.initial.reader) ≡ Some (before l.list.items rest, r);
}

abbrev pub decreases-elements : goal.decreases-elements
decreases-elements l = length l.reader
