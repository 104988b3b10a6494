-- the last of the members that are left has the name, or another
use Rattle.std.proofs.Common.{◌≡◌, ◌+◌, ◌-◌, ◌<◌, arith, length, sym, ◌∙◌}
use Rattle.chi_json.proofs.FlatLemmas.{last_has, last_lacks}
use Rattle.chi_json.proofs.flat.last_named.Goals as goal

pub returns-then-eq : goal.returns-then-eq
returns-then-eq c =
    let ms = c.args.members.now in
    let left = c.members.left in
    let within : left - 1 < length ms = omega (arith, c.members.invariant.within) in
    let next : left ≡ left - 1 + 1 = omega arith in
    let member = c.index-members-left in
    sym (c.members.invariant.same ∙ last_has ms left (left - 1) member.result c.args.name.now next within member.is (sym c.eq.ensures ∙ c.if-eq.true))

pub members-preserved : goal.members-preserved
members-preserved c =
    let ms = c.args.members.now in
    let left = c.members.left in
    let within : left - 1 < length ms = omega (arith, c.members.invariant.within) in
    let next : left ≡ left - 1 + 1 = omega arith in
    let member = c.index-members-left in record {
      within = omega arith;
      same = c.members.invariant.same ∙ last_lacks ms left (left - 1) member.result c.args.name.now next within member.is (sym c.eq.ensures ∙ c.if-eq.false);
    }
