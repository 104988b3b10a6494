-- a member more, or the end
use Rattle.std.proofs.Common.{◌≡◌, ◌<◌, ◌≤◌, ◌-◌, None, Some, length, ap, arith, sym, ◌∙◌}
use Rattle.json.specs.Json.{members, read_key, value}
use Rattle.json.proofs.Grammar.{read_key-shorter}
use Rattle.serde_json.specs.Data.{Members}
use Rattle.serde_json.specs.Read.{converted, of_members}
use Rattle.chi_json.specs.Datum.{datum_data}
use Rattle.chi_json.specs.Flat.{flat_members}
use Rattle.chi_json.proofs.FlatLemmas.{put_all-push}
use Rattle.chi_json.proofs.FlatReading.{member_read, members_over}
use Rattle.chi_json.proofs.next.add_members.Goals as goal

pub returns-in_default-next-clause-value : goal.returns-in_default-next-clause-value
returns-in_default-next-clause-value c _ depth =
    let l = c.members in
    let ended : read_key l.reader ≡ Some (None, c.next_key.new.self) = grind arith in
    l.invariant.3 depth ∙ members_over (value depth) l.invariant.0 l.reader c.next_key.new.self (flat_members l.object) l.invariant.1 ended

pub returns-in_default-next-clause-shorter : goal.returns-in_default-next-clause-shorter
returns-in_default-next-clause-shorter c _ =
    let l = c.members in
    let ended : read_key l.reader ≡ Some (None, c.next_key.new.self) = grind arith in
    let less = read_key-shorter l.reader None c.next_key.new.self ended in
    omega (arith, less, l.invariant.1, l.invariant.2)

pub members-preserved : goal.members-preserved
members-preserved c =
    let l = c.members in
    let n = l.invariant.0 in
    let enough : length l.reader ≤ n = l.invariant.1 in
    let most : n ≤ length c.args.reader.now = l.invariant.2 in
    let k = c.in-Some.name.now in
    let s = c.next_key.new.self in
    let r = c.datum.new.reader in
    let d = datum_data c.in-Some-datum.value in
    let named : read_key l.reader ≡ Some (Some k, s) = grind arith in
    let less : length s < length l.reader = read_key-shorter l.reader (Some k) s named in
    let lesser : length r < length s = c.in-Some-datum.ensures.shorter in
    let some : 0 < n = omega arith in
    let left : length r ≤ n - 1 = omega arith in
    let still : n - 1 ≤ length c.args.reader.now = omega arith in (
      n - 1,
      left,
      still,
      λ depth. l.invariant.3 depth ∙ member_read (value depth) n k l.reader s r d (flat_members l.object) some named (c.in-Some-datum.ensures.value depth)
          ∙ ap (λ (found : Members). converted (λ ms. of_members ms found) (members (value depth) (n - 1) r)) (sym (put_all-push l.object.members.items _ (c.in-Some.name, c.in-Some-datum.value) c.push.ensures.items)),
    )
