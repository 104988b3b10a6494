-- the numbers of the granules of a trace, sorted and each once
use Rattle.std.proofs.Common.{◌≡◌, ℕ, ◌+◌, ◌<◌, ◌==◌, Bool, true, false, not, List, [], ◌∷◌, ◌++◌, filter, get_or, length, map, take, refl, sym, ap, subst, ◌∙◌, append_assoc, eqb, eqb-true}
use Rattle.std.specs.Prelude.{IsPermutation}
use Rattle.std.specs.List.{Contains, dedup}
use Rattle.std.specs.List.Sorted.{IsSorted}
use Rattle.std.specs.Ordering.{nat_cmp}
use Rattle.std.proofs.lemmas.Map.Keys.{IsStrictlyIncreasing-dedup}
use Rattle.std.proofs.lemmas.List.{map-append, take_more}
use Rattle.std.proofs.lemmas.List.Elements.{All-contains_itself, All-weaker, Contains-append_left, Contains-append_right, Contains-push}
use Rattle.std.proofs.lemmas.List.Kept.{Contains-dedup_nat, Contains-from_dedup}
use Rattle.std.proofs.lemmas.List.Sorted.{Contains-permutation, IsPermutation-sym}
use Rattle.chi_search.proofs.Sets.{Contains-filter, Contains-map}
use Rattle.chi_trace.specs.declared.operation.Operation.{Operation}
use Rattle.chi_trace.specs.Granules.{granule_of}
use Rattle.chi_trace.specs.declared.words.GranuleWord.{GranuleWord}
use Rattle.chi_reading.specs.TraceText.{RecordedValue}
use Rattle.chi_granules.specs.Judged.{AreGranules, HasGranules, granules_told}

abbrev pub granule_told : GranuleWord → ℕ
granule_told told = told.granule

-- sorted, and each once
pub are_granules : (r : RecordedValue) (all sorted once : List ℕ) → all ≡ granules_told r → IsPermutation all sorted → IsSorted nat_cmp sorted → once ≡ dedup eqb sorted → AreGranules r once
are_granules r all sorted once are moved order is = subst (AreGranules r) (sym is) record {
  rising = IsStrictlyIncreasing-dedup sorted order;
  each = λ g. (
    λ there. subst (λ (l : List ℕ). Contains l g) are (Contains-permutation sorted all g (IsPermutation-sym all sorted moved) (Contains-from_dedup eqb sorted g there)),
    λ told. Contains-dedup_nat sorted g (Contains-permutation all sorted g moved (subst (λ (l : List ℕ). Contains l g) (sym are) told)),
  );
}

-- each that has an operation, or of which a word was observed at the end, is among them
pub has_granules : (r : RecordedValue) (granule_numbers : List ℕ) → AreGranules r granule_numbers → HasGranules r granule_numbers
has_granules r granule_numbers are = record {
  operations = All-weaker (Contains ops) (λ op. Contains granule_numbers (granule_of op))
      (λ op there. (are.each (granule_of op)).1 (Contains-append_left first second (granule_of op) (Contains-map granule_of ops op there))) ops (All-contains_itself ops);
  final_words = All-weaker (Contains r.final_words) (λ told. Contains granule_numbers told.granule)
      (λ told there. (are.each told.granule).1 (Contains-append_right first second told.granule (Contains-map granule_told r.final_words told there))) r.final_words (All-contains_itself r.final_words);
}
  where
    ops : List Operation
    ops = r.trace.operations

    first : List ℕ
    first = map granule_of ops

    second : List ℕ
    second = map granule_told r.final_words

-- each that has a number in one list has it in another
pub has_also : (r : RecordedValue) (xs ys : List ℕ) → ((n : ℕ) → Contains xs n → Contains ys n) → HasGranules r xs → HasGranules r ys
has_also r xs ys also has = record {
  operations = All-weaker (λ op. Contains xs (granule_of op)) (λ op. Contains ys (granule_of op)) (λ op. also (granule_of op)) r.trace.operations has.operations;
  final_words = All-weaker (λ told. Contains xs told.granule) (λ told. Contains ys told.granule) (λ told. also told.granule) r.final_words has.final_words;
}

-- one of them first, and then the others
pub has_first : (r : RecordedValue) (granule_numbers all : List ℕ) (g : ℕ) → HasGranules r granule_numbers → all ≡ g ∷ filter (λ other. not (other == g)) granule_numbers → HasGranules r all
has_first r granule_numbers all g has is = subst (HasGranules r) (sym is) (has_also r granule_numbers (g ∷ others) kept has)
  where
    others : List ℕ
    others = filter (λ other. not (other == g)) granule_numbers

    kept : (n : ℕ) → Contains granule_numbers n → Contains (g ∷ others) n
    kept n there = by_test (n == g) refl
      where
        by_test : (b : Bool) → (n == g) ≡ b → Contains (g ∷ others) n
        by_test true same = Contains-append_left (g ∷ []) others n (subst (Contains (g ∷ [])) (sym (eqb-true n g same)) (Contains-push [] g))
        by_test false other = Contains-append_right (g ∷ []) others n (Contains-filter (λ m. not (m == g)) granule_numbers n there (ap not other))

-- the number of one more word
pub numbers_more : (start old new : List ℕ) (words : List GranuleWord) (k : ℕ) (d : GranuleWord) → k < length words → old ≡ start ++ map granule_told (take k words)
    → new ≡ old ++ (get_or words k d).granule ∷ [] → new ≡ start ++ map granule_told (take (k + 1) words)
numbers_more start old new words k d below are pushed =
    pushed ∙ (ap (λ l. l ++ (get_or words k d).granule ∷ []) are
    ∙ (append_assoc start (map granule_told (take k words)) ((get_or words k d).granule ∷ [])
    ∙ ap (λ l. start ++ l) (sym (ap (map granule_told) (take_more words k d below) ∙ map-append granule_told (take k words) (get_or words k d ∷ [])))))
