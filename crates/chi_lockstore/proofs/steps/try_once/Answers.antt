-- The exchange of the line.
use Rattle.std.proofs.Common.{rules, subst, refl, ℕ, nat_eq, List, set, if◌then◌else◌}
use lib.Pointwise.{pointwise}
use Rattle.crossbeam_utils.specs.Seq.{cell_view}
use Rattle.crossbeam_utils.specs.Register.{Turns}
use Rattle.chi_rule.specs.declared.purpose.Purpose.{Purpose}
use Rattle.chi_rule.specs.declared.view.View.{View}
use Rattle.chi_rule.specs.Rule.{Ruled}
use Rattle.chi_rule.specs.StepFacts.{Tries}
use Rattle.chi_lockstore.proofs.Line.{line_tried, line_tries}
use Rattle.chi_lockstore.proofs.Room.{cell_fits}
use Rattle.chi_lockstore.proofs.steps.try_once.Goals as goal

pub compare_exchange_as-requires : goal.compare_exchange_as-requires
compare_exchange_as-requires g c =
    let v : View = cell_view c.args.pass.now in
    let purpose : Purpose = c.args.purpose.now in
    let new : List ℕ = set c.args.current c.args.granule c.args.next in
    let step = line_tries c.args._values.now c.args.pass.now.id v c.requires.known.now c.args.current new c.args.granule c.args.next purpose.src purpose.access
    c.requires.granule c.requires.holds c.access_is_lawful.ensures c.requires.fits c.requires.applies refl in
    let asked = c.requires.asked in (
      cell_fits g.row.A c.requires.small,
      (
        search rules,
        (
          c.requires.own,
          subst (λ (z : Purpose × List ℕ). Turns (Ruled 8) c.args.pass.now.id v
              (λ x. if pointwise nat_eq x c.args.current then new else x) (λ v x y w. Tries v z.1 z.0.src z.0.access x w)) (λ i. (asked.0 i, asked.1 i)) step,
        ),
      ),
    )

pub returns-clause-tried : goal.returns-clause-tried
returns-clause-tried g c =
    line_tried c.compare_exchange_as.result (cell_view c.args.pass.now) (cell_view c.compare_exchange_as.new.pass) c.args.current c.args.purpose.now.src c.args.purpose.now.access
    (rw (← c.requires.asked.0, ← c.requires.asked.1) at c.compare_exchange_as.ensures.rule)
