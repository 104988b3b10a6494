-- one flit more was seen
use Rattle.std.proofs.Common.{◌+◌, rules, refl}
use Rattle.chi_flits.specs.Effects.{PortValue}
use Rattle.chi_flits.proofs.Steps.{has_seen_more}
use Rattle.chi_flits.proofs.port.Port.take.Goals as goal

pub returns-clause-seen : goal.returns-clause-seen
returns-clause-seen c flits seen =
    let middle : PortValue = record {
      transactions = c.self-2.inside.transactions.entries;
      transfers = c.self-2.inside.transfers.entries;
      count = c.self-2.inside.count;
      time = c.self-2.inside.time;
    } in
    let new : PortValue = record middle { count = c.self-2.inside.count + 1; time = c.args.flit.now.time } in
    has_seen_more flits c.args.self.now new c.args.flit.now seen (search rules) (search rules) refl
