-- The first view is set to the opening's values.
use Rattle.std.proofs.Common.{rules, [], subst, sym}
use Rattle.crossbeam_utils.specs.Register.{Forks}
use Rattle.crossbeam_utils.specs.Seq.{cell_view}
use Rattle.chi_history.specs.declared.opening.Opening.{Opening}
use Rattle.chi_rule.specs.declared.view.View.{View}
use Rattle.chi_rule.specs.Rule.{Ruled}
use Rattle.chi_rule.specs.Views.{all_below, gone, knower}
use Rattle.chi_rule.proofs.RuledLemmas.{ruled_first}
use Rattle.chi_lockstore.proofs.Line.{line_opens}
use Rattle.chi_lockstore.proofs.Room.{cell_fits}
use Rattle.chi_lockstore.proofs.steps.begin.Goals as goal

pub ruled-requires : goal.ruled-requires
ruled-requires g c = (cell_fits g.row.A c.requires.small, (search rules, ruled_first 8))

pub cut-spare-requires-clause-rule : goal.cut-spare-requires-clause-rule
cut-spare-requires-clause-rule g c =
    let v : View = cell_view c.in_ok-cell.pass in
    subst (λ (z : Opening). Forks (Ruled 8) c.in_ok-cell.pass.id v (knower z (all_below z.requesters) []) gone) (sym c.requires.asked)
    (line_opens c.args._values.now c.in_ok-cell.pass.id v (search rules) c.requires.opening.region c.requires.line)
