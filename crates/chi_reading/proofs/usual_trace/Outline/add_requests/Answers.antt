-- the requests of the list
use Rattle.std.proofs.Common.{refl}
use Rattle.serde_json.specs.Data.{array}
use Rattle.chi_reading.proofs.Outlines.{requests_outlined}
use Rattle.chi_reading.proofs.usual_trace.Outline.add_requests.Goals as goal

pub returns-in-Some-clause-outline : goal.returns-in-Some-clause-outline
returns-in-Some-clause-outline c done all is =
    let listed = c.in-Some.ensures.value in
    (array listed.0, listed.1, requests_outlined all c.args.self.now _ is listed.0 c.in-Some.listed refl refl listed.2)
