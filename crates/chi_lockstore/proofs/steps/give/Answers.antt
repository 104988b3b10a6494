-- One number gets a pass of its own.
use Rattle.std.proofs.Common.{subst, ℕ}
use Rattle.crossbeam_utils.specs.Seq.{cell_view}
use Rattle.crossbeam_utils.specs.Register.{Forks}
use Rattle.chi_rule.specs.declared.view.View.{View}
use Rattle.chi_rule.specs.Rule.{Ruled}
use Rattle.chi_rule.specs.Views.{alone, rest_of}
use Rattle.chi_lockstore.proofs.Line.{is_live, line_gives}
use Rattle.chi_lockstore.proofs.steps.give.Goals as goal

pub cut-requires-clause-rule : goal.cut-requires-clause-rule
cut-requires-clause-rule g c =
    let v : View = cell_view c.args.pass.now in
    subst (λ (n : ℕ). Forks (Ruled 8) c.args.pass.now.id v (rest_of n v) (alone n v)) c.requires.asked
    (line_gives c.args.pass.now.id v c.args._src (is_live v c.requires.seat) c.requires.holds)
