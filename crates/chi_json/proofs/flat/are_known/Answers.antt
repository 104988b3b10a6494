-- a member more is known
use Rattle.std.proofs.Common.{refl, sym, ◌∙◌}
use Rattle.chi_json.specs.Unknown.{unknown_in}
use Rattle.chi_json.proofs.FlatLemmas.{known_more}
use Rattle.chi_json.proofs.flat.are_known.Goals as goal
use Rattle.chi_json.proofs.flat.are_known.Goals.{then-is_at, else-is_at+else-not-is_known}

pub members-init : goal.members-init
unfolding unknown_in
members-init g c = refl

pub members-preserved : goal.members-preserved
members-preserved g c =
    let member = c.member-item in
    known_more g.M.Named.name_of _ c.args.members.now c.members.member-index member.result c.members-test.true member.is (elim c.if-is_at.branch [ then-is_at w ↦ c.is_at.ensures w.if-is_at.true | else-is_at+else-not-is_known w ↦ sym w.is_known.ensures ∙ w.if-not-is_known.false ]) c.members.invariant
