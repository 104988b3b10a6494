-- the request of a number is taken out, where it is there
use Rattle.std.proofs.Common.{◌≡◌, nat_eq, Some, refl, sym, ap, ◌∙◌}
use Rattle.std.specs.Map.{lookup}
use Rattle.lru.specs.LruCache.{lru_cache}
use Rattle.chi_events.specs.Outstanding.{open_with}
use Rattle.chi_events.specs.declared.outstanding.Open.{Open}
use Rattle.chi_events.proofs.Kept.{left_are_kept, same_are_kept}
use Rattle.chi_events.proofs.Numbers.{none_removed, removed, with_number}
use Rattle.chi_events.proofs.requests.Requests.remove.Goals as goal

pub invariant_of-self : goal.invariant_of-self
invariant_of-self c =
    let s = c.self.inside in
    let o : Open = c.in-Some.request in
    let found : lookup (nat_eq c.args.id) s.by_number.entries ≡ Some o = sym c.pop.ensures.value ∙ c.in-Some.is in
    left_are_kept s.by_number s.starts c.self.invariant c.pop.new.self c.remove_start.new.starts c.args.id o found c.len-count.ensures.valid.0 c.pop.ensures.entries c.remove_start.ensures

pub returns-in-Some : goal.returns-in-Some
returns-in-Some c o there =
    let s = c.self.inside in
    let found = with_number c.args.id s.by_number.entries c.self.invariant.numbered c.len-count.ensures.valid.0 ∙ (ap (open_with c.args.id) c.self.view_is ∙ there) in
    rw (sym c.self.view_is, c.pop.ensures.entries) (removed (nat_eq c.args.id) o s.by_number.entries found)

pub invariant_of-self-in_default : goal.invariant_of-self-in_default
invariant_of-self-in_default c =
    let s = c.self.inside in
    let none = none_removed (nat_eq c.args.id) s.by_number.entries (sym c.pop.ensures.value ∙ c.in_default.is) in
    same_are_kept s.by_number s.starts c.self.invariant c.pop.new.self s.starts (c.pop.ensures.entries ∙ ap (λ es. lru_cache es s.by_number.cap) none) (λ g. refl)

pub returns-in_default : goal.returns-in_default
returns-in_default c o there =
    let s = c.self.inside in
    let found = with_number c.args.id s.by_number.entries c.self.invariant.numbered c.len-count.ensures.valid.0 ∙ (ap (open_with c.args.id) c.self.view_is ∙ there) in
    absurd (c.in_default.not-Some o (c.pop.ensures.value ∙ found))
