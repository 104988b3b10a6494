-- the access is lawful, and lies in the region or on the line around its address, which end within 2^52 bytes
use Rattle.std.proofs.Common.{IfSome, ◌+◌, ◌^◌, ◌≤◌, arith, rules, sym}
use Rattle.chi_fields.specs.Access.{Access}
use Rattle.chi_fields.specs.Extent.{IsRegion}
use Rattle.chi_json.proofs.WalkLemmas.{at_ok}
use Rattle.chi_trace.specs.RequestFields.{access_of}
use Rattle.chi_trace.proofs.Decided.{accessed_so}
use Rattle.chi_reading.proofs.requests.observed.Goals as goal

abbrev IsBelow : Access → Type 0
IsBelow a = a.addr + a.len ≤ 2 ^ 52

pub returns-clause-operation : goal.returns-clause-operation
returns-clause-operation c =
    let is : IfSome c.args.region IsRegion = search rules in
    let below = accessed_so c.args.region c.args.stated.fields IsBelow is (λ r kind region passes. omega (arith, passes.below, region.end)) in
    rw c.operation.ensures (record {
      lawful = search rules;
      within = at_ok (access_of c.args.region c.args.stated.fields) c.in-Ok.access IsBelow (sym c.in-Ok.ensures) below;
      lasting = c.if-stated.false;
    })
