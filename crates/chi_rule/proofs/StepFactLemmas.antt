-- what a caller has of what a step showed
use Rattle.std.proofs.Common.{◌≡◌, ℕ, ◌^◌, ◌<◌, true, IsTrue, List, [], ◌∷◌, ◌++◌, slice_index, bit_xor, refl, sym, ap, subst, ◌∙◌, zero-le}
use Rattle.chi_fields.specs.Extent.{Extent, IsRegion, granule_of, lies_in}
use Rattle.chi_fields.specs.Access.{IsLawful, Access}
use Rattle.chi_lanes.specs.declared.reply.Reply.{Reply}
use Rattle.chi_lanes.specs.After.{after, answer}
use Rattle.chi_lanes.specs.Memory.{Memory, IsMemory, word}
use Rattle.chi_history.specs.declared.entry.Entry.{Entry}
use Rattle.chi_history.specs.declared.opening.Opening.{Opening}
use Rattle.chi_history.specs.NumberSets.{Apart, union}
use Rattle.chi_history.specs.History.{IsLegal, IsLegalFrom, end, opening_memory}
use Rattle.chi_history.specs.HomeClauses.{Completes, Joins, entry}
use Rattle.chi_history.specs.NumberLists.{has}
use Rattle.chi_history.proofs.HistoryLemmas.{legal-back, legal-front}
use Rattle.chi_history.proofs.WordLemmas.{word-opening_memory}
use Rattle.chi_rule.specs.declared.view.View.{View}
use Rattle.chi_rule.specs.Rule.{first_word, shown}
use Rattle.chi_rule.specs.StepFacts.{Adds, Applies, Replaces, Settles, next_entry}
use Rattle.chi_rule.specs.Views.{both, knower}
use Rattle.chi_rule.proofs.StepLemmas.{granule_below, unmasked}
use Rattle.chi_rule.proofs.ViewLemmas.{has-append}
use Rattle.chi_rule.proofs.Histories.{IsMemory-end}

-- `reply` is the answer of every memory whose granule a store keeps as `found`
abbrev pub Answers : Opening → Access → ℕ → Reply → Type 0
Answers o access found reply = (m : Memory) → IsRegion o.region → IsMemory m
    → word m o.region (granule_of access.addr o.region) ≡ bit_xor found (first_word o (granule_of access.addr o.region))
    → reply ≡ answer access m

-- two seats that were made one
pub record IsJoined (v w u : View) : Type 0 where
  pub now : u ≡ knower v.opening u.held u.seen
  pub apart : Apart (has v.held) (has w.held)
  pub held : has u.held ≡ union (has v.held) (has w.held)
  pub joins : Joins (has v.held) v.seen (has w.held) w.seen u.seen
  pub legal : IsLegal v.opening u.seen
  pub numbers : (r : ℕ) → has u.held r ≡ true → r < v.opening.requesters

-- the word that a store keeps, unmasked by the image, is the granule's
pub read_word : (o : Opening) (h : List Entry) (g found : ℕ) → g < o.region.granules → slice_index o.image g < 2 ^ 64 → found ≡ shown o h g
    → bit_xor found (slice_index o.image g) ≡ word (end o h) o.region g
read_word o h g found under small is =
    ap (bit_xor found) (sym (word-opening_memory o g under small))
    ∙ (ap (λ n. bit_xor n (first_word o g)) is ∙ unmasked (word (end o h) o.region g) (first_word o g))

-- what the word of an access becomes, as it is computed over the unmasked word
pub applies : (o : Opening) (access : Access) (found before result next : ℕ) → granule_of access.addr o.region < o.region.granules → slice_index o.image (granule_of access.addr o.region) < 2 ^ 64
    → lies_in access.addr access.len o.region ≡ true
    → ((region : Extent) (m : Memory) → IsRegion region → IsMemory m → IsTrue (lies_in access.addr access.len region) → before ≡ word m region (granule_of access.addr region)
    → result ≡ word (after access m) region (granule_of access.addr region))
    → before ≡ bit_xor found (slice_index o.image (granule_of access.addr o.region)) → next ≡ bit_xor result (slice_index o.image (granule_of access.addr o.region))
    → Applies o access found next
applies o access found before result next under small fits changed unmask mask m is_region is_memory at =
    let g : ℕ = granule_of access.addr o.region in
    let first : slice_index o.image g ≡ first_word o g = sym (word-opening_memory o g under small) in
    mask ∙ (λ i. bit_xor (changed o.region m is_region is_memory fits (unmask ∙ (ap (bit_xor found) first ∙ sym at)) i) (first i))

-- and what is answered
pub answers : (o : Opening) (access : Access) (found before : ℕ) (reply : Reply) → granule_of access.addr o.region < o.region.granules → slice_index o.image (granule_of access.addr o.region) < 2 ^ 64
    → lies_in access.addr access.len o.region ≡ true
    → ((region : Extent) (m : Memory) → IsRegion region → IsMemory m → IsTrue (lies_in access.addr access.len region) → before ≡ word m region (granule_of access.addr region)
    → reply ≡ answer access m)
    → before ≡ bit_xor found (slice_index o.image (granule_of access.addr o.region)) → Answers o access found reply
answers o access found before reply under small fits answered unmask m is_region is_memory at =
    let g : ℕ = granule_of access.addr o.region in
    let first : slice_index o.image g ≡ first_word o g = sym (word-opening_memory o g under small) in
    answered o.region m is_region is_memory fits (unmask ∙ (ap (bit_xor found) first ∙ sym at))

-- what is known of an entry that was added: its access lies in the region, and is lawful
added_fits : (v : View) (mid : List Entry) (src : ℕ) (access : Access) (w : View) → Adds v mid src access w
    → (lies_in access.addr access.len v.opening.region ≡ true) × IsLawful access
unfolding IsLegalFrom
added_fits v mid src access w adds =
    let last = legal-back v.opening (opening_memory v.opening) (v.seen ++ mid) (next_entry v (v.seen ++ mid) src access ∷ []) adds.legal in
    (last.0.inside, last.0.lawful)

-- an entry that was added where a word was found completes the request with the answer of that word
pub added : (v : View) (mid : List Entry) (src : ℕ) (access : Access) (w : View) (found : ℕ) (reply : Reply) → Adds v mid src access w
    → found ≡ shown v.opening (v.seen ++ mid) (granule_of access.addr v.opening.region) → Answers v.opening access found reply
    → Completes v.opening (has v.held) v.seen w.seen src access reply 0
added v mid src access w found reply adds is answered =
    let o : Opening = v.opening in
    let h : List Entry = v.seen ++ mid in
    let g : ℕ = granule_of access.addr o.region in
    let legal : IsLegal o h = legal-front o (opening_memory o) h (next_entry v h src access ∷ []) adds.legal in
    let at : word (end o h) o.region g ≡ bit_xor found (first_word o g) = sym (ap (λ n. bit_xor n (first_word o g)) is ∙ unmasked (word (end o h) o.region g) (first_word o g)) in
    let told : reply ≡ answer access (end o h) = answered (end o h) adds.region (IsMemory-end o h legal) at in
    (mid, ap (λ (z : View). z.seen) adds.now ∙ ap (λ (r : Reply). h ++ entry src access r ∷ []) (sym told), adds.free, zero-le)

-- the exchange of all words, where they were as expected
pub replaced : (v : View) (words : List ℕ) (src : ℕ) (access : Access) (w : View) (reply : Reply) → Replaces v words src access w
    → Answers v.opening access (slice_index words (granule_of access.addr v.opening.region)) reply
    → Completes v.opening (has v.held) v.seen w.seen src access reply 0
replaced v words src access w reply replaces answered =
    let fit = added_fits v replaces.mid src access w replaces.adds in
    let g : ℕ = granule_of access.addr v.opening.region in
    added v replaces.mid src access w (slice_index words g) reply replaces.adds (replaces.words_are g (granule_below v.opening access fit.1 fit.0)) answered

-- what the look after a merge shows
pub joined : (v w u : View) → Settles (both v w) u → IsJoined v w u
joined v w u settles = subst (λ (z : View). IsJoined v w z) (sym settles.now) (record {
  now = refl;
  apart = settles.joint.0;
  held = has-append v.held w.held;
  joins = settles.joint.1;
  legal = settles.legal;
  numbers = settles.numbers;
})
