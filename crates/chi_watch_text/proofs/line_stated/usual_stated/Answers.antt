-- a usual line names no channel, or states a flit or a point
use Rattle.std.proofs.Common.{sym, ◌∙◌}
use Rattle.chi_json.specs.Flat.{flat_members}
use Rattle.chi_watch_text.proofs.UsualStated.{states_none, states_some}
use Rattle.chi_watch_text.proofs.line_stated.usual_stated.Goals as goal

pub returns-then-not-names_channel : goal.returns-then-not-names_channel
returns-then-not-names_channel c =
    states_none c.args.number c.args.line.now (flat_members c.in-Some.object) c.in-Some.ensures (sym c.names_channel.ensures ∙ c.if-not-names_channel.true)

pub returns : goal.returns
returns c =
    states_some c.args.number c.args.line.now (flat_members c.in-Some.object) c.in_ok-stated.stated c.in-Some.ensures (sym c.names_channel.ensures ∙ c.if-not-names_channel.false)
    c.in_ok-stated.ensures
