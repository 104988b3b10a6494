-- a request is put in the place of the one of its number
use Rattle.std.proofs.Common.{◌≡◌, nat_eq, [], ◌∷◌, None, Some, Option, IfSome, refl, sym, ap, ◌∙◌, subst}
use Rattle.std.specs.Map.{lookup, set_value}
use Rattle.lru.specs.LruCache.{lru_cache}
use Rattle.chi_events.specs.Granules.{granule_of_request}
use Rattle.chi_events.specs.Outstanding.{open_with}
use Rattle.chi_events.specs.Requests.{Replaces, requests_of}
use Rattle.chi_events.specs.declared.outstanding.Open.{Open}
use Rattle.chi_events.proofs.Kept.{replaced_are_kept}
use Rattle.chi_events.proofs.Numbers.{replaced, with_number}
use Rattle.chi_events.proofs.requests.Requests.replace.Goals as goal

pub returns-in_default : goal.returns-in_default
returns-in_default c o there =
    let now : Open = c.args.request in
    let s = c.self.inside in
    let found = with_number now.id s.by_number.entries c.self.invariant.numbered c.len-count.ensures.valid.0 ∙ (ap (open_with now.id) c.self.view_is ∙ there) in
    let none : None ≡ Some o = c.in_default.ensures.value ∙ found in
    cc

pub invariant_of-self-2 : goal.invariant_of-self-2
invariant_of-self-2 c =
    let now : Open = c.args.request in
    let s = c.self.inside in
    let o : Open = c.in-Some.kept.now in
    let found : lookup (nat_eq now.id) s.by_number.entries ≡ Some o = sym c.in-Some.ensures.value in
    let there : open_with now.id c.args.self.now ≡ Some o =
    sym (with_number now.id s.by_number.entries c.self.invariant.numbered c.len-count.ensures.valid.0 ∙ ap (open_with now.id) c.self.view_is) ∙ found in
    let fits = subst (λ (found : Option Open). IfSome found (λ o. (granule_of_request now ≡ granule_of_request o) × (now.start ≡ o.start))) there c.requires in
    replaced_are_kept s.by_number s.starts c.self.invariant (lru_cache (set_value (nat_eq now.id) s.by_number.entries now) s.by_number.cap) s.starts now o found fits.0 fits.1 refl (λ g. refl)

pub returns : goal.returns
returns c o there =
    let now : Open = c.args.request in
    let s = c.self.inside in
    let found = with_number now.id s.by_number.entries c.self.invariant.numbered c.len-count.ensures.valid.0 ∙ (ap (open_with now.id) c.self.view_is ∙ there) in
    subst (λ before. Replaces o (now ∷ []) before (requests_of (lru_cache (set_value (nat_eq now.id) s.by_number.entries now) s.by_number.cap))) c.self.view_is
    (replaced (nat_eq now.id) now o s.by_number.entries found)
