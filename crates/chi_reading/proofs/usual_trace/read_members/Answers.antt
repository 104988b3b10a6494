-- a member more, or the end
use Rattle.std.proofs.Common.{◌≡◌, ◌-◌, ◌<◌, ◌≤◌, None, Some, length, refl, arith, ◌∙◌}
use Rattle.json.specs.Json.{read_key, value}
use Rattle.json.proofs.Grammar.{read_key-shorter}
use Rattle.serde_json.specs.Data.{no_members, put}
use Rattle.chi_json.proofs.FlatReading.{member_read, members_over}
use Rattle.chi_reading.proofs.Outlines.{none_outlined}
use Rattle.chi_reading.proofs.usual_trace.read_members.Goals as goal

pub members-init : goal.members-init
members-init c = record {
  all = no_members;
  n = length c.args.reader.now;
  enough = omega arith;
  read = refl;
  outline = none_outlined _ c.new.ensures.empty refl;
}

pub returns-in_default-next : goal.returns-in_default-next
returns-in_default-next c =
    let l = c.members in
    let ended : read_key l.reader ≡ Some (None, c.next_key.new.self) = grind arith in
    (l.invariant.all, l.invariant.read ∙ members_over (value 126) l.invariant.n l.reader c.next_key.new.self l.invariant.all l.invariant.enough ended, l.invariant.outline)

pub members-preserved : goal.members-preserved
members-preserved c =
    let l = c.members in
    let n = l.invariant.n in
    let enough : length l.reader ≤ n = l.invariant.enough in
    let k = c.in-Some.name.now in
    let s = c.next_key.new.self in
    let r = c.add_member.new.reader in
    let named : read_key l.reader ≡ Some (Some k, s) = grind arith in
    let less : length s < length l.reader = read_key-shorter l.reader (Some k) s named in
    let lesser : length r < length s = c.add_member.ensures.shorter c.if-not-add_member.false in
    let some : 0 < n = omega arith in
    let more = c.add_member.ensures.outline c.if-not-add_member.false l.invariant.all l.invariant.outline in record {
      all = put k more.0 l.invariant.all;
      n = n - 1;
      enough = omega arith;
      read = l.invariant.read ∙ member_read (value 126) n k l.reader s r more.0 l.invariant.all some named more.1;
      outline = more.2;
    }
