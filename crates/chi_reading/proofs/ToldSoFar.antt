-- the words that a list told so far, and its next element
use Rattle.std.proofs.Common.{◌≡◌, ℕ, ◌+◌, ◌<◌, ◌≤◌, cond, List, [], ◌∷◌, ◌++◌, length, drop, get_or, Option, Some, None, refl, sym, ap, ◌∙◌}
use Rattle.std.specs.BTreeMap.{BTreeMap, get}
use Rattle.std.specs.Ordering.{is_eq, nat_cmp}
use Rattle.std.specs.Prelude.{is_some, option_and_then, if◌then◌else◌}
use Rattle.std.proofs.lemmas.List.{at_drop_all, at_drop_more}
use Rattle.serde_json.specs.Data.{Items, item}
use Rattle.serde_json.specs.View.{items_view, view}
use Rattle.serde_json.specs.declared.value.Value.{Value}
use Rattle.chi_reading.specs.Told.{told_from, told_more, told_of}
use Rattle.chi_reading.proofs.OneMore.{has_more}
use Rattle.chi_trace.specs.declared.words.GranuleWord.{GranuleWord}
use Rattle.chi_trace.specs.Words.{find_word}

-- a map has the words that the elements before a place told, and with those from there on they are the words of the list
pub record IsSoFar (map : BTreeMap ℕ ℕ) (values : List Value) (i : ℕ) : Type 0 where
  pub seen : List GranuleWord
  pub list : told_from [] (items_view values) ≡ told_from seen (items_view (drop i values))
  pub has : (g : ℕ) → get nat_cmp map g ≡ find_word seen g

-- before the first element
pub none_so_far : (map : BTreeMap ℕ ℕ) (values : List Value) → map.entries ≡ [] → IsSoFar map values 0
unfolding find_word
none_so_far map values empty = record { seen = []; list = refl; has = λ g. rw empty refl }

-- past the last element
pub all_so_far : (map : BTreeMap ℕ ℕ) (values : List Value) (i : ℕ) (so_far : IsSoFar map values i) → length values ≤ i
    → told_from [] (items_view values) ≡ Some so_far.seen
unfolding told_from
all_so_far map values i so_far past = so_far.list ∙ at_drop_all (λ vs. told_from so_far.seen (items_view vs)) values i past

-- the words so far, what an element tells, and the elements after it
abbrev told_on : List GranuleWord → Option GranuleWord → Items → Option (List GranuleWord)
told_on seen word rest = option_and_then (λ more. told_from more rest) (told_more seen word)

-- the same, by the word that was told of the element's granule before
abbrev told_over : List GranuleWord → GranuleWord → Option ℕ → Items → Option (List GranuleWord)
told_over seen w before rest = option_and_then (λ more. told_from more rest) (if is_some before then None else Some (seen ++ w ∷ []))

module _ (map : BTreeMap ℕ ℕ) (values : List Value) (i : ℕ) (value : Value)
    (so_far : IsSoFar map values i) (under : i < length values) (here : value ≡ get_or values i value) where
  after : Items
  after = items_view (drop (i + 1) values)

  next_item : (word : Option GranuleWord) → word ≡ told_of (view value) → told_from [] (items_view values) ≡ told_on so_far.seen word after
  unfolding told_from after
  next_item word is =
      so_far.list
      ∙ (ap (told_from so_far.seen) (at_drop_more items_view values i value under ∙ ap (λ v. item (view v) after) (sym here))
      ∙ ap (λ w. told_on so_far.seen w after) (sym is))

  -- an element that tells no word
  pub none_told : None ≡ told_of (view value) → told_from [] (items_view values) ≡ None
  none_told is = next_item None is

  before : (w : GranuleWord) (old : Option ℕ) → Some w ≡ told_of (view value) → old ≡ get nat_cmp map w.granule
      → told_from [] (items_view values) ≡ told_over so_far.seen w old after
  before w old is had = next_item (Some w) is ∙ ap (λ o. told_over so_far.seen w o after) (sym (had ∙ so_far.has w.granule))

  -- an element that tells the word of a granule once more
  pub told_again : (w : GranuleWord) (old : Option ℕ) (word : ℕ) → Some w ≡ told_of (view value) → old ≡ get nat_cmp map w.granule → old ≡ Some word
      → told_from [] (items_view values) ≡ None
  told_again w old word is had some = before w old is had ∙ ap (λ o. told_over so_far.seen w o after) some

  -- an element that tells the word of another granule
  pub told_next : (w : GranuleWord) (old : Option ℕ) (new : BTreeMap ℕ ℕ) → Some w ≡ told_of (view value) → old ≡ get nat_cmp map w.granule → old ≡ None
      → ((g : ℕ) → get nat_cmp new g ≡ cond (is_eq (nat_cmp w.granule g)) (Some w.word) (get nat_cmp map g)) → IsSoFar new values (i + 1)
  unfolding after
  told_next w old new is had none put = record {
    seen = so_far.seen ++ w ∷ [];
    list = before w old is had ∙ ap (λ o. told_over so_far.seen w o after) none;
    has = λ g. has_more so_far.seen w g _ _ (sym (so_far.has w.granule) ∙ (sym had ∙ none)) (so_far.has g) (put g);
  }
