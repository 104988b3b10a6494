-- what is told of a granule, with more operations
use Rattle.std.proofs.Common.{◌≡◌, ℕ, ◌≤◌, List, [], ◌∷◌, ◌++◌, All, filter, flat_map, refl, sym, ap, subst, ◌∙◌, append_assoc, arith}
use Rattle.std.specs.Prelude.{IsPermutation}
use Rattle.std.proofs.lemmas.List.Concat.{flat_map-append}
use Rattle.std.proofs.lemmas.List.Elements.{All-append, All-weaker, filter-append}
use Rattle.std.proofs.lemmas.List.Sorted.{All-permutation, IsPermutation-append, IsPermutation-append_comm, IsPermutation-refl, IsPermutation-sym, IsPermutation-trans, length_permutation}
use Rattle.chi_events.specs.declared.event.Event.{Event}
use Rattle.chi_judge.proofs.Lists.{IsPermutation-filter}
use Rattle.chi_trace.specs.AtPlaces.{is_in}
use Rattle.chi_trace.specs.declared.operation.Operation.{Operation}
use Rattle.chi_watch.specs.Judged.{judged_part}
use Rattle.chi_watch.specs.Watches.{told_of}
use Rattle.chi_watch.specs.WordsTold.{writes_told}
use Rattle.chi_watch.proofs.JudgedParts.{judged_permutation}

module _ (events : List Event) (g : ℕ) (ended more : List Operation) where
  abbrev own : List Operation
  own = filter (is_in g) more

  -- they stand after what was told before
  told_moved : IsPermutation (told_of events (ended ++ more) g) (told_of events ended g ++ own)
  told_moved =
      subst (IsPermutation (told_of events (ended ++ more) g)) (filter-append (is_in g) (ended ++ writes_told events) more)
      (IsPermutation-filter (is_in g) ((ended ++ more) ++ writes_told events) ((ended ++ writes_told events) ++ more)
      (subst (λ l. IsPermutation l ((ended ++ writes_told events) ++ more)) (sym (append_assoc ended more (writes_told events)))
      (subst (IsPermutation (ended ++ (more ++ writes_told events))) (sym (append_assoc ended (writes_told events) more))
      (IsPermutation-append ended ended (more ++ writes_told events) (writes_told events ++ more) (IsPermutation-refl ended) (IsPermutation-append_comm more (writes_told events))))))

  -- and so does what is judged of them
  pub parts_moved : (told : List Operation) → IsPermutation (flat_map (judged_part events) (told_of events ended g)) told
      → IsPermutation (flat_map (judged_part events) (told_of events (ended ++ more) g)) (told ++ flat_map (judged_part events) own)
  parts_moved told moved =
      IsPermutation-trans (flat_map (judged_part events) (told_of events (ended ++ more) g)) (flat_map (judged_part events) (told_of events ended g) ++ flat_map (judged_part events) own) (told ++ flat_map (judged_part events) own)
      (subst (IsPermutation (flat_map (judged_part events) (told_of events (ended ++ more) g))) (flat_map-append (judged_part events) (told_of events ended g) own)
      (judged_permutation events (told_of events (ended ++ more) g) (told_of events ended g ++ own) told_moved))
      (IsPermutation-append (flat_map (judged_part events) (told_of events ended g)) told (flat_map (judged_part events) own) (flat_map (judged_part events) own) moved (IsPermutation-refl (flat_map (judged_part events) own)))

  pub all_started : (last now : ℕ) → last ≤ now → All (λ op. op.start ≤ now) (filter (is_in g) more) → All (λ op. op.start ≤ last) (told_of events ended g) → All (λ op. op.start ≤ now) (told_of events (ended ++ more) g)
  all_started last now later those all =
      All-permutation (λ (op : Operation). op.start ≤ now) (told_of events ended g ++ own) (told_of events (ended ++ more) g)
      (IsPermutation-sym (told_of events (ended ++ more) g) (told_of events ended g ++ own) told_moved)
      (All-append (λ (op : Operation). op.start ≤ now) (told_of events ended g) own
      (All-weaker (λ (op : Operation). op.start ≤ last) (λ (op : Operation). op.start ≤ now) (λ op by. omega (arith, by, later)) (told_of events ended g) all) those)

  -- where there are none at all
  pub none_more : told_of events ended g ≡ [] → own ≡ [] → told_of events (ended ++ more) g ≡ []
  none_more none no_more = nil_moved (told_of events (ended ++ more) g) (subst (IsPermutation (told_of events (ended ++ more) g)) (ap (λ l. l ++ own) none ∙ no_more) told_moved)
    where
      nil_moved : (l : List Operation) → IsPermutation l [] → l ≡ []
      nil_moved [] moved = refl
      nil_moved (op ∷ l) moved = absurd (omega (arith, length_permutation (op ∷ l) [] moved))
