-- looks and exchanges keep the rule
use Rattle.std.proofs.Common.{◌≡◌, ◌≢◌, ℕ, ◌+◌, ◌*◌, ◌<◌, ◌≤◌, true, List, [], ◌∷◌, ◌++◌, length, set, slice_index, bit_xor, refl, sym, ap, subst, ◌∙◌, arith, append-nil, true≢false, length-set, get_or-set_same, get_or-set_other}
use Rattle.std.proofs.lemmas.Bool.{and_parts, leb-true}
use Rattle.std.proofs.lemmas.Bool.Decides.{nat_tests}
use Rattle.std.proofs.lemmas.List.{set-get_or}
use Rattle.std.specs.Int.Bits.{xor_assoc, xor_self, xor_zero_r}
use mathlib.Core.Logic.{dite}
use mathlib.Core.Option as plain
use native.Mathlib.Decide.{ℕ_discrete}
use lib.ListN.{get_elem?}
use Rattle.chi_fields.specs.Extent.{granule_of, lies_in}
use Rattle.chi_fields.specs.Access.{IsLawful, Access}
use Rattle.chi_lanes.specs.After.{answer}
use Rattle.chi_lanes.specs.Memory.{Memory, word}
use Rattle.chi_lanes.proofs.Operands.{placed}
use Rattle.chi_history.specs.declared.entry.Entry.{Entry}
use Rattle.chi_history.specs.declared.opening.Opening.{Opening}
use Rattle.chi_history.specs.NumberSets.{Held, below}
use Rattle.chi_history.specs.History.{IsFreeOf, IsLegal, IsLegalFrom, end, opening_memory}
use Rattle.chi_history.specs.HomeClauses.{entry}
use Rattle.chi_history.specs.NumberLists.{has}
use Rattle.chi_history.proofs.HistoryLemmas.{free-all, legal-back, legal-front}
use Rattle.chi_history.proofs.WordLemmas.{end-snoc, word-snoc_other}
use Rattle.chi_rule.specs.declared.view.View.{View}
use Rattle.chi_rule.specs.Rule.{Kept, Knows, RuleStands, first_word, shown}
use Rattle.chi_rule.specs.StepFacts.{Adds, Applies, Looks, Reads, ReadsAt, Sees, Settles}
use Rattle.chi_rule.specs.Views.{knower}
use Rattle.chi_rule.proofs.Histories.{IsMemory-end, legal-append}
use Rattle.chi_rule.proofs.RuleLemmas.{advance, seen_here, seen_set, unmoved}
use Rattle.chi_rule.proofs.Steps.{Steps}
use Rattle.chi_rule.proofs.ViewLists.{set_again}

-- a mask that is taken away again
pub unmasked : (a b : ℕ) → bit_xor (bit_xor a b) b ≡ a
unmasked a b = xor_assoc a b b ∙ (ap (bit_xor a) (xor_self b) ∙ xor_zero_r a)

-- a seat that has seen all knows
pub knows_all : (o : Opening) (h : List Entry) (held : List ℕ) → ((r : ℕ) → has held r ≡ true → r < o.requesters) → Knows o h (knower o held h)
unfolding IsFreeOf
knows_all o h held numbers = record {
  settled = refl;
  opened = λ _. refl;
  spent = λ dead. absurd (true≢false dead);
  numbers = numbers;
  precedes = ([], sym (append-nil h), tt);
  joint = tt;
}

-- a view that has seen its part of the history knows also with nothing kept of two seats
pub knows_settled : (o : Opening) (h : List Entry) (v : View) → v.opening ≡ o → Knows o h v → Knows o h (knower v.opening v.held v.seen)
knows_settled o h v same k = record {
  settled = refl;
  opened = λ _. same;
  spent = λ dead. absurd (true≢false dead);
  numbers = k.numbers;
  precedes = k.precedes;
  joint = tt;
}

-- a set of all numbers has each of them
pub below_all : (o : Opening) (held : Held) → held ≡ below o.requesters → (r : ℕ) → r < o.requesters → held r ≡ true
below_all o held all r under = ap (λ (f : Held). f r) all ∙ grind (arith, nat_tests)

-- a seat that holds all numbers has seen all
pub all_is_seen : (o : Opening) (h : List Entry) (v : View) → v.opening ≡ o → IsLegal o h → Knows o h v → has v.held ≡ below v.opening.requesters → h ≡ v.seen
all_is_seen o h v same legal k all =
    let rest : List Entry = k.precedes.0 in
    let back = legal-back o (opening_memory o) v.seen rest (subst (IsLegal o) k.precedes.1 legal) in
    let none : rest ≡ [] = free-all o (end o v.seen) (has v.held) rest (below_all o (has v.held) (all ∙ ap (λ (z : Opening). below z.requesters) same)) back k.precedes.2 in
    k.precedes.1 ∙ (ap (λ l. v.seen ++ l) none ∙ append-nil v.seen)

-- a look that leaves the view
pub reads : (count : ℕ) (o : Opening) (id : ℕ) (v : View) → v.live ≡ true → Steps count o id v (λ ws. ws) (Reads v)
reads count o id v live words views kept at =
    let h : List Entry = kept.0 in
    let s = kept.1 in
    let k = s.each id v at in
    let same : v.opening ≡ o = k.opened live in (
      v,
      subst (λ l. Kept count o words l) (sym (set_again views id v at)) kept,
      (
        refl,
        λ all g under. s.written g (subst (λ (z : Opening). g < z.region.granules) same under)
            ∙ (λ i. shown (sym same i) (all_is_seen o h v same s.legal k all i) g),
      ),
    )

-- a look at one word
pub reads_at : (count : ℕ) (o : Opening) (id : ℕ) (v : View) → v.live ≡ true → (g : ℕ) → g < v.opening.region.granules
    → Steps count o id v (λ ws. ws) (λ ws. ReadsAt v g (slice_index ws g))
reads_at count o id v live g under words views kept at =
    let t = reads count o id v live words views kept at in
    (t.0, t.1, (t.2.0, λ all. t.2.1 all g under))

-- a step that writes the word that was there writes nothing
pub unwritten : (count : ℕ) (o : Opening) (id : ℕ) (v : View) (told : List ℕ → View → Type 0) (g : ℕ) → Steps count o id v (λ ws. ws) told
    → Steps count o id v (λ ws. set ws g (slice_index ws g)) told
unwritten count o id v told g step words views kept at =
    let t = step words views kept at in
    (t.0, subst (λ ws. Kept count o ws (set views id t.0)) (sym (set-get_or words g 0)) t.1, t.2)

-- the look after two seats were made one
pub settles : (count : ℕ) (o : Opening) (id : ℕ) (v : View) → v.live ≡ true → Steps count o id v (λ ws. ws) (λ _. Settles v)
settles count o id v live words views kept at =
    let h : List Entry = kept.0 in
    let s = kept.1 in
    let k = s.each id v at in
    let same : v.opening ≡ o = k.opened live in
    let w : View = knower v.opening v.held v.seen in (
      w,
      (h, unmoved count o h words views s id v w at (knows_settled o h v same k) (λ r held. held) (λ r held. held) (seen_set h views id v w at refl s.longest)),
      record {
        now = refl;
        joint = k.joint;
        legal = subst (λ (z : Opening). IsLegal z v.seen) (sym same) (legal-front o (opening_memory o) v.seen k.precedes.0 (subst (IsLegal o) k.precedes.1 s.legal));
        numbers = λ r held. subst (λ (z : Opening). r < z.requesters) (sym same) (k.numbers r held);
      },
    )

-- the seat sees all
pub sees : (count : ℕ) (o : Opening) (h : List Entry) (words : List ℕ) (views : List View) (id : ℕ) (held : List ℕ) (seen : List Entry)
    → RuleStands count o h words views → get_elem? views id ≡ plain.some (knower o held seen)
    → RuleStands count o h words (set views id (knower o held h))
    × ((mid : List Entry) × (h ≡ seen ++ mid) × Sees (knower o held seen) mid (knower o held h))
sees count o h words views id held seen s at =
    let v : View = knower o held seen in
    let w : View = knower o held h in
    let k = s.each id v at in
    let whole : h ≡ seen ++ k.precedes.0 = k.precedes.1 in (
      unmoved count o h words views s id v w at (knows_all o h held k.numbers) (λ r in_it. in_it) (λ r in_it. in_it) (seen_here h views id v w at refl),
      (k.precedes.0, whole, record { now = ap (knower o held) whole; free = k.precedes.2; legal = subst (IsLegal o) whole s.legal }),
    )

-- the load of a try, at a knower
looks_at : (count : ℕ) (o : Opening) (id : ℕ) (held : List ℕ) (seen : List Entry) (g : ℕ) → g < o.region.granules
    → Steps count o id (knower o held seen) (λ ws. ws) (λ ws. Looks (knower o held seen) g (slice_index ws g))
looks_at count o id held seen g under words views kept at =
    let s = kept.1 in
    let t = sees count o kept.0 words views id held seen s at in (
      knower o held kept.0,
      (kept.0, t.0),
      record { mid = t.1.0; sees = t.1.2; found_is = s.written g under ∙ ap (λ h. shown o h g) t.1.1 },
    )

-- the load of a try
pub looks : (count : ℕ) (o : Opening) (id : ℕ) (v : View) → v ≡ knower o v.held v.seen → (g : ℕ) → g < o.region.granules
    → Steps count o id v (λ ws. ws) (λ ws. Looks v g (slice_index ws g))
looks count o id v is g under =
    subst (λ (z : View). Steps count o id z (λ ws. ws) (λ ws. Looks z g (slice_index ws g))) (sym is) (looks_at count o id v.held v.seen g under)

-- the granule of an access that lies in the region is one of the region's
pub granule_below : (o : Opening) (access : Access) → IsLawful access → lies_in access.addr access.len o.region ≡ true
    → granule_of access.addr o.region < o.region.granules
granule_below o access lawful fits =
    let parts = and_parts _ _ fits in
    let above : o.region.base ≤ access.addr = leb-true o.region.base access.addr parts.0 in
    let under : access.addr + access.len ≤ o.region.base + 8 * o.region.granules = leb-true (access.addr + access.len) (o.region.base + 8 * o.region.granules) parts.1 in
    let some : 1 ≤ access.len = (placed access.addr access.len lawful.part lawful.aligned).some in
    omega arith

-- the entry of an access at the end of a history
abbrev pub next_of : Opening → List Entry → ℕ → Access → Entry
next_of o h src access = entry src access (answer access (end o h))

-- a history that goes on by such an entry is legal
legal_next : (o : Opening) (h : List Entry) (src : ℕ) (access : Access) → IsLegal o h → src < o.requesters → IsLawful access
    → lies_in access.addr access.len o.region ≡ true → IsLegal o (h ++ next_of o h src access ∷ [])
unfolding IsLegalFrom
legal_next o h src access legal under lawful fits =
    legal-append o (opening_memory o) h (next_of o h src access ∷ []) legal (record { requester = under; inside = fits; answered = refl; lawful = lawful }, tt)

-- the words after an entry more are those that the history shows
words_after : (count : ℕ) (o : Opening) (h : List Entry) (words : List ℕ) (views : List View) (src : ℕ) (access : Access) (next : ℕ)
    → RuleStands count o h words views → IsLawful access → lies_in access.addr access.len o.region ≡ true
    → Applies o access (slice_index words (granule_of access.addr o.region)) next
    → (g : ℕ) → g < o.region.granules → slice_index (set words (granule_of access.addr o.region) next) g ≡ shown o (h ++ next_of o h src access ∷ []) g
words_after count o h words views src access next s lawful fits applies g under = dite (ℕ_discrete g at)
    (λ here.
    let inside : at < length words = omega (arith, s.counted, s.room, granule_below o access lawful fits) in
    ap (slice_index (set words at next)) here
    ∙ (get_or-set_same words at next 0 inside
    ∙ (applies (end o h) s.region (IsMemory-end o h s.legal) before
    ∙ (ap (λ (m : Memory). bit_xor (word m o.region at) (first_word o at)) (sym (end-snoc o h (next_of o h src access)))
    ∙ ap (shown o (h ++ next_of o h src access ∷ [])) (sym here)))))
    (λ other.
    get_or-set_other words at g next 0 other
    ∙ (s.written g under
    ∙ ap (λ n. bit_xor n (first_word o g)) (sym (word-snoc_other o h (next_of o h src access) g s.region lawful fits other))))
  where
    at : ℕ
    at = granule_of access.addr o.region

    before : word (end o h) o.region at ≡ bit_xor (slice_index words at) (first_word o at)
    before = sym (ap (λ n. bit_xor n (first_word o at)) (s.written at (granule_below o access lawful fits)) ∙ unmasked (word (end o h) o.region at) (first_word o at))

-- the seat adds an entry of a number that it holds
pub appends : (count : ℕ) (o : Opening) (h : List Entry) (words : List ℕ) (views : List View) (id : ℕ) (held : List ℕ) (seen : List Entry)
    → RuleStands count o h words views → get_elem? views id ≡ plain.some (knower o held seen)
    → (src : ℕ) (access : Access) (next : ℕ) → has held src ≡ true → IsLawful access → lies_in access.addr access.len o.region ≡ true
    → Applies o access (slice_index words (granule_of access.addr o.region)) next
    → RuleStands count o (h ++ next_of o h src access ∷ []) (set words (granule_of access.addr o.region) next) (set views id (knower o held (h ++ next_of o h src access ∷ [])))
    × ((mid : List Entry) × (h ≡ seen ++ mid) × Adds (knower o held seen) mid src access (knower o held (h ++ next_of o h src access ∷ [])))
unfolding IsFreeOf
appends count o h words views id held seen s at src access next holds lawful fits applies =
    let v : View = knower o held seen in
    let k = s.each id v at in
    let g : ℕ = granule_of access.addr o.region in
    let longer : List Entry = h ++ next_of o h src access ∷ [] in
    let w : View = knower o held longer in
    let legal : IsLegal o longer = legal_next o h src access s.legal (k.numbers src holds) lawful fits in
    let whole : h ≡ seen ++ k.precedes.0 = k.precedes.1 in (
      advance count o h words views s id v w at (next_of o h src access ∷ []) (set words g next) legal (length-set words g next ∙ s.counted)
          (words_after count o h words views src access next s lawful fits applies)
          (λ i past. let differ : i ≢ g = omega (arith, granule_below o access lawful fits) in get_or-set_other words g i next 0 differ ∙ s.zeros i past)
          (knows_all o longer held k.numbers) (λ r in_it. in_it) (λ r in_it. in_it)
          (λ j u other at_j. (s.apart id j v u (λ e. other (sym e)) at at_j src holds, tt))
          (seen_here longer views id v w at refl),
      (
        k.precedes.0,
        whole,
        record {
          mine = holds;
          region = s.region;
          now = ap (λ l. knower o held (l ++ next_of o l src access ∷ [])) whole;
          free = k.precedes.2;
          legal = subst (λ l. IsLegal o (l ++ next_of o l src access ∷ [])) whole legal;
        },
      ),
    )
