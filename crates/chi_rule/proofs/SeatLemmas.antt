-- the seats of a store, from step to step
use Rattle.std.proofs.Common.{◌≡◌, ◌≢◌, ℕ, ◌+◌, ◌^◌, ◌<◌, true, List, [], ◌∷◌, length, slice_index, slice_set, bit_xor, refl, sym, ap, subst, ◌∙◌, arith}
use Rattle.std.proofs.lemmas.Bool.{ltb-true, eqb-true}
use Rattle.std.proofs.lemmas.List.{get_or-set_other, get_or-set_same}
use borrow.Author.Count.{below_more}
use Rattle.chi_fields.specs.Extent.{granule_of}
use Rattle.chi_fields.specs.Access.{Access}
use Rattle.chi_lanes.specs.declared.reply.Reply.{Reply}
use Rattle.chi_lanes.specs.Memory.{word}
use Rattle.chi_history.specs.declared.opening.Opening.{Opening}
use Rattle.chi_history.specs.NumberSets.{Held, below, only, union, without}
use Rattle.chi_history.specs.History.{IsLegal, IsLegalFrom, end}
use Rattle.chi_history.specs.HomeClauses.{Completes}
use Rattle.chi_history.specs.NumberLists.{has}
use Rattle.chi_history.proofs.HeldLemmas.{without-held}
use Rattle.chi_rule.specs.declared.view.View.{View}
use Rattle.chi_rule.specs.Rule.{shown}
use Rattle.chi_rule.specs.Seats.{IsKnown, IsSeat}
use Rattle.chi_rule.specs.StepFacts.{Replaces, Settles}
use Rattle.chi_rule.specs.Views.{all_below, all_but, alone, both, knower, rest_of}
use Rattle.chi_rule.proofs.StepFactLemmas.{Answers, IsJoined, joined, read_word, replaced}
use Rattle.chi_rule.proofs.TryLemmas.{IsTried, replaced_try}
use Rattle.chi_rule.proofs.ViewLemmas.{has-all_below, has-all_but, has-only}

-- a seat of an opening carries its values
pub known_opening : (o : Opening) (v : View) → IsKnown o v → v.opening ≡ o
known_opening o v known = ap (λ (z : View). z.opening) known.now

-- a seat that knows the same of other numbers
known_at : (o : Opening) (v : View) (held : List ℕ) (w : View) → IsKnown o v → w ≡ knower v.opening held v.seen → IsKnown o w
known_at o v held w known is =
    let same : v.opening ≡ o = known_opening o v known in
    subst (λ (z : View). IsKnown o z) (sym is) (record { now = λ i. knower (same i) held v.seen; legal = known.legal })

-- a try leaves a seat of the opening
pub known_try : (o : Opening) (v w : View) → IsKnown o v → IsTried v w → IsKnown o w
known_try o v w known tried =
    let same : v.opening ≡ o = known_opening o v known in
    let held : w.held ≡ v.held = ap (λ (z : View). z.held) tried.now in
    record {
      now = tried.now ∙ (λ i. knower (same i) (sym held i) w.seen);
      legal = subst (λ (z : Opening). IsLegal z w.seen) same tried.legal;
    }

-- and the numbers that it holds
pub held_try : (v w : View) → IsTried v w → w.held ≡ v.held
held_try v w tried = ap (λ (z : View). z.held) tried.now

-- the first seat of an opening
pub seat_first : (o : Opening) (numbers : List ℕ) (v : View) → v ≡ knower o (all_below o.requesters) [] → has numbers ≡ below o.requesters → IsSeat o numbers v
unfolding IsLegalFrom
seat_first o numbers v is all = record {
  known = subst (IsKnown o) (sym is) (record { now = refl; legal = tt });
  same = all ∙ (sym (has-all_below o.requesters) ∙ sym (ap (λ (z : View). has z.held) is));
  opened = λ r holds. ltb-true r o.requesters (ap (λ (f : Held). f r) (sym all) ∙ holds);
}

-- the seat without one of its numbers
pub seat_rest : (o : Opening) (numbers rest : List ℕ) (v : View) (src : ℕ) (w : View) → IsSeat o numbers v → has rest ≡ without src (has numbers) → w ≡ rest_of src v
    → IsSeat o rest w
seat_rest o numbers rest v src w s left is = record {
  known = known_at o v (all_but src v.held) w s.known is;
  same = left ∙ (ap (without src) s.same ∙ (sym (has-all_but src v.held) ∙ sym (ap (λ (z : View). has z.held) is)));
  opened = λ r holds. s.opened r (without-held src (has numbers) r (ap (λ (f : Held). f r) (sym left) ∙ holds));
}

-- the seat of that number alone
pub seat_alone : (o : Opening) (numbers one : List ℕ) (v : View) (src : ℕ) (w : View) → IsSeat o numbers v → has numbers src ≡ true → has one ≡ only src → w ≡ alone src v
    → IsSeat o one w
seat_alone o numbers one v src w s holds is_one is = record {
  known = known_at o v (src ∷ []) w s.known is;
  same = is_one ∙ (sym (has-only src) ∙ sym (ap (λ (z : View). has z.held) is));
  opened = λ r in_it. s.opened r (ap (has numbers) (eqb-true r src (ap (λ (f : Held). f r) (sym is_one) ∙ in_it)) ∙ holds);
}

-- the seat that two were made
pub seat_joined : (o : Opening) (numbers other whole : List ℕ) (v u w : View) → IsSeat o numbers v → IsSeat o other u → has whole ≡ union (has numbers) (has other)
    → Settles (both v u) w → IsSeat o whole w
seat_joined o numbers other whole v u w s t all settled =
    let is : IsJoined v u w = joined v u w settled in
    let same : v.opening ≡ o = known_opening o v s.known in
    let held : has whole ≡ has w.held = all ∙ ((λ i. union (s.same i) (t.same i)) ∙ sym is.held) in
    record {
      known = record {
        now = is.now ∙ (λ i. knower (same i) w.held w.seen);
        legal = subst (λ (z : Opening). IsLegal z w.seen) same is.legal;
      };
      same = held;
      opened = λ r holds. subst (λ (z : Opening). r < z.requesters) same (is.numbers r (ap (λ (f : Held). f r) (sym held) ∙ holds));
    }

-- the seat after an exchange of all words where they were as expected, which completes its request
pub seat_replaces : (o : Opening) (v : View) (words : List ℕ) (src : ℕ) (access : Access) (w : View) (reply : Reply) → IsKnown o v → Replaces v words src access w
    → Answers o access (slice_index words (granule_of access.addr o.region)) reply
    → IsKnown o w × (w.held ≡ v.held) × Completes o (has v.held) v.seen w.seen src access reply 0
seat_replaces o v words src access w reply known replaces answered =
    let same : v.opening ≡ o = known_opening o v known in
    let tried : IsTried v w = replaced_try v words src access w replaces in
    let told : Answers v.opening access (slice_index words (granule_of access.addr v.opening.region)) reply =
    subst (λ (z : Opening). Answers z access (slice_index words (granule_of access.addr z.region)) reply) (sym same) answered in (
      known_try o v w known tried,
      held_try v w tried,
      subst (λ (z : Opening). Completes z (has v.held) v.seen w.seen src access reply 0) same (replaced v words src access w reply replaces told),
    )

-- the word that a seat of all numbers finds is the granule's, under the image
pub seat_reads : (o : Opening) (numbers : List ℕ) (v : View) (g found : ℕ) → IsSeat o numbers v → has numbers ≡ below o.requesters
    → g < o.region.granules → slice_index o.image g < 2 ^ 64 → (has v.held ≡ below v.opening.requesters → found ≡ shown v.opening v.seen g)
    → bit_xor found (slice_index o.image g) ≡ word (end o v.seen) o.region g
seat_reads o numbers v g found s all under small reads =
    let opening : v.opening ≡ o = known_opening o v s.known in
    let holds : has v.held ≡ below v.opening.requesters = sym s.same ∙ (all ∙ (λ i. below (sym opening i).requesters)) in
    read_word o v.seen g found under small (reads holds ∙ ap (λ (z : Opening). shown z v.seen g) opening)

-- one more word of a list is as it is to be
pub one_more : (words : List ℕ) (i x : ℕ) (f : ℕ → ℕ) → i < length words → ((k : ℕ) → k < i → slice_index words k ≡ f k) → x ≡ f i
    → (k : ℕ) → k < i + 1 → slice_index (slice_set words i x) k ≡ f k
one_more words i x f inside before is =
    below_more (λ k. slice_index (slice_set words i x) k ≡ f k) i
    (λ k less. let other : k ≢ i = omega arith in get_or-set_other words i k x 0 other ∙ before k less)
    (get_or-set_same words i x 0 inside ∙ is)
