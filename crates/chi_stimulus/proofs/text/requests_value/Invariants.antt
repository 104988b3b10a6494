-- the first requests as objects
use Rattle.std.proofs.Common.{◌≡◌, All, map, take}
use Rattle.serde_json.specs.View.{view}
use Rattle.chi_script.specs.Script.{IsWritable}
use Rattle.chi_stimulus.specs.Object.{request_data}
use Rattle.chi_stimulus.proofs.text.requests_value.Given as goal

abbrev pub invariant-loop-request : goal.invariant-loop-request
invariant-loop-request l = record {
  values : map view l.values.items ≡ map request_data (take l.request-index l.requests);
  writable : All IsWritable (take l.request-index l.requests);
}
