-- what an event of each kind does, and why it cannot come
use Rattle.std.specs.Prelude.{if◌then◌else◌}
use Rattle.std.proofs.Common.{◌≡◌, ℕ, ◌&&◌, Bool, true, false, cond, List, [], ◌∷◌, ◌==◌, Option, Some, None, is_some, IfSome, refl, sym, subst, ap, ◌∙◌, eqb-true}
use Rattle.std.proofs.lemmas.Bool.{true≢false}
use Rattle.chi_fields.specs.Access.{Access}
use Rattle.chi_lanes.specs.declared.reply.Reply.{Reply}
use Rattle.chi_trace.specs.declared.operation.Operation.{Operation}
use Rattle.chi_events.specs.declared.event.EventKind.{EventKind}
use Rattle.chi_events.specs.declared.fault.EventFault.{EventFault}
use Rattle.chi_events.specs.declared.outstanding.Open.{Open}
use Rattle.chi_events.specs.Granules.{granule_of_request}
use Rattle.chi_events.specs.Outstanding.{kind_fault, open_with}
use Rattle.chi_events.specs.Requests.{Replaces}
use Rattle.chi_events.specs.EventEffects.{Changes, Takes, ended_by, still_open}

-- what an event does is what one of its kind does
pub of_kind : (requests : List Open) (time : ℕ) (ended : Option Operation) (after : List Open) (k kind : EventKind) → k ≡ kind
    → (kind_fault requests kind ≡ None) × Takes kind time requests ended after → (kind_fault requests k ≡ None) × Takes k time requests ended after
of_kind requests time ended after k kind same takes = subst (λ k. (kind_fault requests k ≡ None) × Takes k time requests ended after) (sym same) takes

-- a request that is found has its number
pub number_of : (id : ℕ) (o : Open) (requests : List Open) → open_with id requests ≡ Some o → o.id ≡ id
number_of id o [] found = cc
number_of id o (p ∷ requests) found = by_test (p.id == id) refl found (number_of id o requests)
  where
    by_test : (t : Bool) → (p.id == id) ≡ t → cond t (Some p) (open_with id requests) ≡ Some o → (open_with id requests ≡ Some o → o.id ≡ id) → o.id ≡ id
    by_test true is found rest = let here : p ≡ o = cc in ap (λ (x : Open). x.id) (sym here) ∙ eqb-true p.id id is
    by_test false is found rest = rest found

module _ (id : ℕ) (o now : Open) (requests : List Open) (found : open_with id requests ≡ Some o) (same : now.id ≡ o.id) where
  -- it is found by the number that it has now
  pub still_there : open_with now.id requests ≡ Some o
  still_there = ap (λ n. open_with n requests) (same ∙ number_of id o requests found) ∙ found

  pub fits_there : granule_of_request now ≡ granule_of_request o → now.start ≡ o.start
      → IfSome (open_with now.id requests) (λ o. (granule_of_request now ≡ granule_of_request o) × (now.start ≡ o.start))
  fits_there granule start = subst (λ (there : Option Open). IfSome there (λ o. (granule_of_request now ≡ granule_of_request o) × (now.start ≡ o.start))) (sym still_there) (granule, start)

-- what is left of a request stands in its place
pub changes : (id : ℕ) (left : Open → List Open) (end : Open → Option Operation) (requests : List Open) (ended : Option Operation) (after : List Open) (o : Open)
    → open_with id requests ≡ Some o → Replaces o (left o) requests after → ended ≡ end o → Changes id left end requests ended after
changes id left end requests ended after o found replaced ends = record {
  request = o;
  first = replaced.first;
  rest = replaced.rest;
  was = replaced.was;
  found = found;
  number = number_of id o requests found;
  is = replaced.is;
  ends = ends;
}

-- a request is taken further: it is left as it is now, or has ended
pub taken_further : (why : Option Open → Option EventFault) (id : ℕ) (next : Open → Open) (time : ℕ) (requests : List Open) (ended : Option Operation) (after : List Open)
    (o now : Open) → open_with id requests ≡ Some o → (why (Some o) ≡ None) × (now ≡ next o) → Replaces o (still_open now) requests after → ended ≡ ended_by time now
    → (why (open_with id requests) ≡ None) × Changes id (λ o. still_open (next o)) (λ o. ended_by time (next o)) requests ended after
taken_further why id next time requests ended after o now found fits replaced ends = (
  ap why found ∙ fits.0,
  changes id (λ o. still_open (next o)) (λ o. ended_by time (next o)) requests ended after o found
      (subst (λ (o' : Open). Replaces o (still_open o') requests after) fits.1 replaced) (ends ∙ ap (ended_by time) fits.1),
)

-- a request stays where it has not ended
pub stays : (time : ℕ) (o : Open) → is_some (ended_by time o) ≡ false → still_open o ≡ o ∷ []
stays time o none = by_parts o.access o.completion none
  where
    by_parts : (a : Option Access) (r : Option (Option Reply)) → is_some (ended_by time (record o { access = a; completion = r })) ≡ false
        → (if is_some a && is_some r then [] else o ∷ []) ≡ o ∷ []
    by_parts None r none = refl
    by_parts (Some a) None none = refl
    by_parts (Some a) (Some r) none = absurd (true≢false none)
