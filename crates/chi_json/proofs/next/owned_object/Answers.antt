-- one member more, and all of them
use Rattle.std.proofs.Common.{◌+◌, ◌<◌, ◌≤◌, List, get_or, length, subst, ap, refl, sym, ◌∙◌}
use Rattle.std.proofs.lemmas.List.{take_all}
use Rattle.serde_json.specs.Data.{no_members, object, put}
use Rattle.serde_json.specs.View.{members_view}
use Rattle.serde_json.proofs.Views.{view-Object}
use Rattle.chi_json.specs.Datum.{datum_data}
use Rattle.chi_json.specs.Flat.{put_all}
use Rattle.chi_json.proofs.FlatLemmas.{Entry, put_all-take}
use Rattle.chi_json.proofs.next.owned_object.Goals as goal

pub members-preserved : goal.members-preserved
members-preserved c =
    let l = c.members in
    let ms = c.args.object.now.members.items in
    let member = c.member-item in
    let same = c.as_slice-member-items.ensures.value in
    c.in-Ok.ensures.ok
    ∙ (ap (λ d. put member.result.0.now d (members_view l.members.entries)) c.in-Some.ensures
    ∙ (ap (put member.result.0.now (datum_data member.result.1)) l.invariant
    ∙ sym (put_all-take ms (l.member-index + 1) l.member-index member.result refl (subst (λ (list : List Entry). l.member-index < length list) same c.members-test.true) (member.is ∙ ap (λ (list : List Entry). get_or list l.member-index member.result) same))))

pub returns : goal.returns
returns c =
    let l = c.members in
    let ms = c.args.object.now.members.items in
    view-Object l.members ∙ ap object (l.invariant ∙ ap (λ (list : List Entry). put_all list no_members) (take_all l.member-index ms (subst (λ (list : List Entry). length list ≤ l.member-index) c.as_slice-member-items.ensures.value c.members-test.false)))
