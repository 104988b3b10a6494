-- stores of one kind on one operand commute
use Rattle.std.proofs.Common.{◌≡◌, sym, ap, ◌∙◌, rules}
use Rattle.chi_fields.specs.declared.kind.Kind.TheVariants.{Store}
use Rattle.chi_search.proofs.LikeStores.{like_stores}
use Rattle.chi_search.proofs.commuting.are_like_stores.Goals as goal

pub returns-then-eq : goal.returns-then-eq
returns-then-eq c is =
    let same = c.is_same_operand.ensures is in
    let op : c.in-Store-Store.kind ≡ c.in-Store-Store.other_kind = search rules in
    like_stores c.in-Store-Store.kind c.args.op.now c.args.other.now c.kind.ensures.lawful c.kind-2.ensures.lawful
    (sym c.kind.ensures.value ∙ c.in-Store-Store.is-0)
    (sym c.kind-2.ensures.value ∙ c.in-Store-Store.is-1 ∙ ap Store (sym op)) same.0 same.1 same.2
