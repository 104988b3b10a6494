-- the elements so far, and then those to come
use Rattle.std.proofs.Common.{◌≡◌, ℕ, ◌+◌, ◌≤◌, length, List, Some}
use Rattle.json.specs.Json.{items, value}
use Rattle.json.specs.Token.{Token}
use Rattle.serde_json.specs.Data.{Items}
use Rattle.serde_json.specs.Events.{items_len}
use Rattle.serde_json.specs.Read.{converted, of_items}
use Rattle.chi_reading.specs.Requests.{completed_of}
use Rattle.chi_reading.proofs.Joined.{after}
use Rattle.chi_reading.proofs.usual_trace.read_requests.Given as goal

abbrev pub invariant-requests : goal.invariant-requests
invariant-requests l = record {
  n : ℕ;
  enough : length l.reader ≤ n;
  most : n ≤ length l.initial.reader;
  all : Items → Items;
  read : (rest : Items) (r : List Token) → converted of_items (items (value 125) n l.reader) ≡ Some (rest, r) → converted of_items (items (value 125) (length l.initial.reader) l.initial.reader) ≡ Some (all rest, r);
  completed : (rest : Items) → completed_of 0 l.region (all rest) ≡ after l.found (completed_of l.place l.region rest);
  counted : (rest : Items) → items_len (all rest) ≡ l.place + items_len rest;
  few : l.place ≤ 1048576;
}

abbrev pub decreases-requests : goal.decreases-requests
decreases-requests l = length l.reader
