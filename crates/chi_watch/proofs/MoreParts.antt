-- what is judged of a granule's operations, with one event more
use Rattle.std.proofs.Common.{◌≡◌, ℕ, zero, suc, ◌≤◌, nat_le, Bool, true, false, cond, List, [], ◌∷◌, ◌++◌, All, Option, Some, None, IfSome, filter, flat_map, map, refl, sym, ap, ap₂, ◌∙◌, arith, eqb-true, le-leb}
use Rattle.std.specs.Option.{option_or}
use Rattle.std.proofs.lemmas.Bool.{leb-true}
use Rattle.std.proofs.lemmas.List.Elements.{All-cons, All-head, All-nil, All-tail}
use Rattle.chi_events.specs.declared.event.Event.{Event}
use Rattle.chi_judge.specs.Until.{cut_before, until}
use Rattle.chi_judge.proofs.CutShort.{cut_before-append}
use Rattle.chi_trace.specs.AtPlaces.{is_in}
use Rattle.chi_trace.specs.Cuts.{operation_at}
use Rattle.chi_trace.specs.Granules.{granule_of}
use Rattle.chi_trace.specs.declared.operation.Operation.{Operation}
use Rattle.chi_watch.specs.Judged.{judged_part, unknown_at}
use Rattle.chi_watch.proofs.JudgedParts.{until-nil}

-- the operations of a granule are of it
abbrev IsOwn : ℕ → Operation → Type 0
IsOwn g op = granule_of op ≡ g

pub own_of : (g : ℕ) (ops : List Operation) → All (IsOwn g) (filter (is_in g) ops)
own_of g [] = All-nil (IsOwn g)
own_of g (op ∷ ops) = by_test (is_in g op) refl (own_of g ops)
  where
    by_test : (b : Bool) → is_in g op ≡ b → All (IsOwn g) (filter (is_in g) ops) → All (IsOwn g) (cond b (op ∷ filter (is_in g) ops) (filter (is_in g) ops))
    by_test true own rest = All-cons (IsOwn g) op (filter (is_in g) ops) (eqb-true (granule_of op) g own) rest
    by_test false other rest = rest

part_of : (events : List Event) (g : ℕ) (op : Operation) → granule_of op ≡ g → judged_part events op ≡ until (unknown_at events g op.start) (op ∷ [])
part_of events g op own = ap (λ (h : ℕ). until (unknown_at events h op.start) (op ∷ [])) own

-- what is known by an early time is known by a later one
known_later : (early late : ℕ) (op : Operation) → early ≤ late → cut_before late (cut_before early (op ∷ [])) ≡ cut_before early (op ∷ [])
known_later zero late op before = until-nil (Some late)
known_later (suc early) zero op before = absurd (omega (arith, before))
known_later (suc early) (suc late) op before = by_start (nat_le op.start early) refl
  where
    unseen : Operation
    unseen = record op { reply = None }

    started : op.start ≤ early → nat_le op.start late ≡ true
    started by = le-leb op.start late (omega (arith, by, before))

    either : (c : Bool) → cond c unseen unseen ∷ [] ≡ unseen ∷ []
    either true = refl
    either false = refl

    by_end : op.start ≤ early → (b : Bool) → nat_le op.end early ≡ b → cut_before (suc late) (cond b op unseen ∷ []) ≡ cond b op unseen ∷ []
    by_end by true ended =
        let later : nat_le op.end late ≡ true = le-leb op.end late (let so = leb-true op.end early ended in omega (arith, so, before)) in
        rw (started by) (rw later refl)
    by_end by false pending = rw (started by) (either (nat_le op.end late))

    by_start : (b : Bool) → nat_le op.start early ≡ b → cut_before (suc late) (map (operation_at early) (cond b (op ∷ []) [])) ≡ map (operation_at early) (cond b (op ∷ []) [])
    by_start true by = by_end (leb-true op.start early by) (nat_le op.end early) refl
    by_start false not_by = refl

-- the parts of a granule's operations, where it is known for each start from which time on
pub same_parts : (events : List Event) (g : ℕ) (since : ℕ → Option ℕ) → ((time : ℕ) → since time ≡ unknown_at events g time) → (ops : List Operation) → All (IsOwn g) ops
    → flat_map (λ op. until (since op.start) (op ∷ [])) ops ≡ flat_map (judged_part events) ops
same_parts events g since same [] own = refl
same_parts events g since same (op ∷ ops) own =
    ap₂ (λ (a b : List Operation). a ++ b)
    (ap (λ (u : Option ℕ). until u (op ∷ [])) (same op.start) ∙ sym (part_of events g op (All-head (IsOwn g) op ops own)))
    (same_parts events g since same ops (All-tail (IsOwn g) op ops own))

module _ (events : List Event) (e : Event) (g : ℕ) where
  -- where it is the same from which time on something that is not told may have written to the granule
  pub parts_same : (ops : List Operation) → All (IsOwn g) ops → All (λ op. unknown_at (events ++ e ∷ []) g op.start ≡ unknown_at events g op.start) ops
      → flat_map (judged_part (events ++ e ∷ [])) ops ≡ flat_map (judged_part events) ops
  parts_same [] own same = refl
  parts_same (op ∷ ops) own same =
      let is : granule_of op ≡ g = All-head (IsOwn g) op ops own in
      ap₂ (λ (a b : List Operation). a ++ b)
      (part_of (events ++ e ∷ []) g op is ∙ (ap (λ (u : Option ℕ). until u (op ∷ [])) (All-head (λ o. unknown_at (events ++ e ∷ []) g o.start ≡ unknown_at events g o.start) op ops same) ∙ sym (part_of events g op is)))
      (parts_same ops (All-tail (IsOwn g) op ops own) (All-tail (λ o. unknown_at (events ++ e ∷ []) g o.start ≡ unknown_at events g o.start) op ops same))

  -- where it may have done so from a time on, and not before
  pub parts_cut : (time : ℕ) → ((t : ℕ) → unknown_at (events ++ e ∷ []) g t ≡ option_or (unknown_at events g t) (Some time)) → ((t : ℕ) → IfSome (unknown_at events g t) (λ since. since ≤ time))
      → (ops : List Operation) → All (IsOwn g) ops → flat_map (judged_part (events ++ e ∷ [])) ops ≡ cut_before time (flat_map (judged_part events) ops)
  parts_cut time more early [] own = sym (until-nil (Some time))
  parts_cut time more early (op ∷ ops) own =
      let is : granule_of op ≡ g = All-head (IsOwn g) op ops own in
      ap₂ (λ (a b : List Operation). a ++ b)
      (part_of (events ++ e ∷ []) g op is
      ∙ (ap (λ (u : Option ℕ). until u (op ∷ [])) (more op.start)
      ∙ (first (unknown_at events g op.start) (early op.start) ∙ ap (cut_before time) (sym (part_of events g op is)))))
      (parts_cut time more early ops (All-tail (IsOwn g) op ops own))
      ∙ sym (cut_before-append time (judged_part events op) (flat_map (judged_part events) ops))
    where
      first : (u : Option ℕ) → IfSome u (λ since. since ≤ time) → until (option_or u (Some time)) (op ∷ []) ≡ cut_before time (until u (op ∷ []))
      first None by = refl
      first (Some since) by = sym (known_later since time op by)
