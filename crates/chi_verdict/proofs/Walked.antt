-- what is known where a walk along the granules has come, and one granule further
use Rattle.std.proofs.Common.{◌≡◌, ℕ, zero, suc, ◌+◌, ◌-◌, ◌<◌, ◌≤◌, ◌==◌, ◌&&◌, nat_lt, Bool, true, false, cond, List, [], ◌∷◌, ◌++◌, All, IfSome, Option, None, drop, take, filter, length, refl, sym, ap, subst, ◌∙◌, arith, eqb-true, eq-eqb, true≢false}
use Rattle.std.proofs.lemmas.Bool.Decides.{nat_tests}
use Rattle.std.proofs.lemmas.List.{map-append, take-append-drop}
use Rattle.std.proofs.lemmas.List.Elements.{All-append, All-head, All-map, All-tail, filter-append}
use Rattle.std.proofs.Math.Seq.{take-add}
use Rattle.chi_history.specs.History.{one_if}
use Rattle.chi_trace.specs.declared.operation.Operation.{Operation}
use Rattle.chi_trace.specs.Explains.{IsInTime, at, is_answered, is_place, times_in}
use Rattle.chi_trace.specs.Granules.{ExplainsGranule, Play, granule_of, is_of, last_word}
use Rattle.chi_trace.proofs.MergedOrders.{none_kept}
use Rattle.chi_verdict.specs.declared.grouping.Placed.{Placed}
use Rattle.chi_verdict.specs.declared.merge_orders.Point.{Point}
use Rattle.chi_trace.specs.declared.words.GranuleWord.{GranuleWord}
use Rattle.chi_verdict.specs.Groups.{ArePlaced, IsGrouped, places_of}
use Rattle.chi_verdict.specs.Points.{ArePoints, AreOrdered, order_of}
use Rattle.chi_verdict.specs.PastGranules.{IsPast}
use Rattle.chi_trace.specs.Words.{find_word, word_or_zero}

-- the walk goes past one granule, from the first to the second of two places and of two words
pub record Passes (places : List Placed) (from to : ℕ) (final_words : List GranuleWord) (word next : ℕ) (g : ℕ) : Type 0 where
  pub least : (h : ℕ) → h < g → IsPast places from final_words word h
  pub there : IsPast places from final_words word g → ⊥
  pub from_to : from ≤ to
  pub own : All (λ p. p.granule ≡ g) (take (to - from) (drop from places))
  pub later : All (λ p. g < p.granule) (drop to places)
  pub word_next : word ≤ next
  pub own_words : All (λ w. w.granule ≡ g) (take (next - word) (drop word final_words))
  pub later_words : All (λ w. g < w.granule) (drop next final_words)

-- Each operation that the walk has passed stands at a point between its start and its end, in the order of its granule. Where
-- none was undecided, those of each granule that was passed are explained.
pub record Walked (opening final_words : List GranuleWord) (ops : List Operation) (places : List Placed) (from word : ℕ) (undecided : Option ℕ) (points : List Point) : Type 0 where
  pub behind : All (λ p. IsPast places from final_words word p.granule) (take from places)
  pub behind_words : All (λ w. IsPast places from final_words word w.granule) (take word final_words)
  pub pointed : ArePoints ops points
  pub ordered : AreOrdered ops points
  pub inside : All (λ p. is_place ops p.place ≡ true) points
  pub past : All (λ p. IsPast places from final_words word (granule_of (at ops p.place))) points
  pub explained : undecided ≡ None → (g : ℕ) → IsPast places from final_words word g
      → ExplainsGranule ops g (word_or_zero opening g) (find_word final_words g) (filter (is_of ops g) (order_of points))

-- what is above each number below g is at least g
pub no_lower : {X : Type 0} (n : X → ℕ) (xs : List X) (g : ℕ) → ((h : ℕ) → h < g → All (λ x. h < n x) xs) → All (λ x. g ≤ n x) xs
no_lower n xs zero least k d under = omega arith
no_lower n xs (suc h) least k d under = let above = least h (omega arith) k d under in omega (arith, above)

-- what was passed is below what was not
pub past_below : (places : List Placed) (from : ℕ) (final_words : List GranuleWord) (word g h : ℕ) → (IsPast places from final_words word g → ⊥)
    → IsPast places from final_words word h → h < g
past_below places from final_words word g h there past = by_test (nat_lt h g) refl
  where
    lower : nat_lt h g ≡ false → IsPast places from final_words word g
    lower is = (λ k d under. let above = past.0 k d under in grind (arith, nat_tests, is, above), λ k d under. let above = past.1 k d under in grind (arith, nat_tests, is, above))

    by_test : (b : Bool) → nat_lt h g ≡ b → h < g
    by_test true is = grind (arith, nat_tests, is)
    by_test false is = absurd (there (lower is))

-- the granule and those before it are passed
pub now_past : (places : List Placed) (from to : ℕ) (final_words : List GranuleWord) (word next g h : ℕ) → Passes places from to final_words word next g → h ≤ g
    → IsPast places to final_words next h
now_past places from to final_words word next g h passes below =
    (λ k d under. let above = passes.later k d under in omega (arith, above, below), λ k d under. let above = passes.later_words k d under in omega (arith, above, below))

-- the first of a list and what follows it, up to a later place
up_to : {X : Type 0} (P : X → Type 0) (xs : List X) (from to : ℕ) → from ≤ to → All P (take from xs) → All P (take (to - from) (drop from xs)) → All P (take to xs)
up_to P xs from to below first then =
    let whole : from + (to - from) ≡ to = omega (arith, below) in
    subst (λ (n : ℕ). All P (take n xs)) whole (subst (All P) (sym (take-add from (to - from) xs)) (All-append P (take from xs) (take (to - from) (drop from xs)) first then))

-- up to there each number is at most the granule's
pub at_most : {X : Type 0} (n : X → ℕ) (xs : List X) (from to g : ℕ) → from ≤ to → All (λ x. n x < g) (take from xs) → All (λ x. n x ≡ g) (take (to - from) (drop from xs))
    → All (λ x. n x ≤ g) (take to xs)
at_most n xs from to g below first own =
    up_to (λ x. n x ≤ g) xs from to below (λ k d under. let is = first k d under in omega (arith, is)) (λ k d under. let is = own k d under in omega (arith, is))

-- a number that is in neither part is not there
pub never : {X : Type 0} (n : X → ℕ) (xs : List X) (to g h : ℕ) → g < h → All (λ x. n x ≤ g) (take to xs) → All (λ x. h < n x) (drop to xs)
    → All (λ x. (n x == h) ≡ false) xs
never n xs to g h above first then =
    subst (All (λ x. (n x == h) ≡ false)) (take-append-drop to xs)
    (All-append (λ x. (n x == h) ≡ false) (take to xs) (drop to xs)
    (λ k d under. let is = first k d under in grind (arith, nat_tests, is, above)) (λ k d under. let is = then k d under in grind (arith, nat_tests, is)))

-- an operation of a granule of which none stands in a list is not in it
absent : (ops : List Operation) (ps : List Placed) (g i : ℕ) → ArePlaced ops ps → All (λ p. (p.granule == g) ≡ false) ps → granule_of (at ops i) ≡ g
    → times_in (places_of ps) i ≡ 0
unfolding times_in
absent ops [] g i placed none is = refl
absent ops (p ∷ ps) g i placed none is =
    at_head (p.place == i) refl (All-head IsPlaced p ps placed).0 (All-head IsOther p ps none) (absent ops ps g i (All-tail IsPlaced p ps placed) (All-tail IsOther p ps none) is)
  where
    IsPlaced : Placed → Type 0
    IsPlaced q = (granule_of (at ops q.place) ≡ q.granule) × ((at ops q.place).end ≡ q.end)

    IsOther : Placed → Type 0
    IsOther q = (q.granule == g) ≡ false

    at_head : (b : Bool) → (p.place == i) ≡ b → granule_of (at ops p.place) ≡ p.granule → (p.granule == g) ≡ false → times_in (places_of ps) i ≡ 0
        → one_if (p.place == i) + times_in (places_of ps) i ≡ 0
    at_head true same here other rest =
        let own : p.granule ≡ g = sym here ∙ ap (λ n. granule_of (at ops n)) (eqb-true p.place i same) ∙ is in
        absurd (true≢false (sym (eq-eqb p.granule g own) ∙ other))
    at_head false same here other rest = let none : one_if (p.place == i) ≡ 0 = ap one_if same in omega (arith, none, rest)

-- no operation is of a granule of which none stands in the list of all
pub not_there : (ops : List Operation) (places : List Placed) (g : ℕ) → IsGrouped ops (is_place ops) places → All (λ p. (p.granule == g) ≡ false) places
    → (i : ℕ) → is_of ops g i ≡ false
not_there ops places g grouped none i = by_test (is_place ops i) refl (granule_of (at ops i) == g) refl
  where
    by_test : (b : Bool) → is_place ops i ≡ b → (d : Bool) → (granule_of (at ops i) == g) ≡ d → (is_place ops i && (granule_of (at ops i) == g)) ≡ false
    by_test true inside true here =
        let once : times_in (places_of places) i ≡ 1 = grouped.each i ∙ ap one_if inside in
        let zero : times_in (places_of places) i ≡ 0 = absent ops places g i grouped.placed none (eqb-true (granule_of (at ops i)) g here) in
        absurd (omega (arith, once, zero))
    by_test true inside false here = ap (λ b. b && (granule_of (at ops i) == g)) inside ∙ here
    by_test false inside d here = ap (λ b. b && (granule_of (at ops i) == g)) inside

-- where none is left and no word was observed, no operation is the order
pub untouched : (ops : List Operation) (g w : ℕ) (final_word : Option ℕ) → ((i : ℕ) → is_of ops g i ≡ false) → final_word ≡ None → ExplainsGranule ops g w final_word []
unfolding times_in IsInTime Play
untouched ops g w final_word none unseen = record {
  done = λ i. subst (λ b. one_if (b && is_answered (at ops i)) ≤ 0) (sym (none i)) (omega arith);
  once = λ i. omega arith;
  times = tt;
  plays = tt;
  ending = subst (λ (o : Option ℕ). IfSome o (λ v. last_word ops w [] ≡ v)) (sym unseen) tt;
}

-- none of a granule stands among points of others
pub none_of : (ops : List Operation) (g : ℕ) (points : List Point) → All (λ p. is_of ops g p.place ≡ false) points → filter (is_of ops g) (order_of points) ≡ []
none_of ops g points others = none_kept (is_of ops g) (order_of points) (All-map (λ i. is_of ops g i ≡ false) (λ p. p.place) points others)

-- all of a granule stand among its own
pub all_of : (ops : List Operation) (g : ℕ) (points : List Point) → All (λ p. is_of ops g p.place ≡ true) points → filter (is_of ops g) (order_of points) ≡ order_of points
all_of ops g [] own = refl
all_of ops g (p ∷ points) own =
    ap (λ b. cond b (p.place ∷ filter (is_of ops g) (order_of points)) (filter (is_of ops g) (order_of points))) (All-head (λ (p : Point). is_of ops g p.place ≡ true) p points own)
    ∙ ap (λ x. p.place ∷ x) (all_of ops g points (All-tail (λ (p : Point). is_of ops g p.place ≡ true) p points own))

-- what stands of a granule, with more points behind
pub parts_of : (ops : List Operation) (g : ℕ) (points added : List Point)
    → filter (is_of ops g) (order_of (points ++ added)) ≡ filter (is_of ops g) (order_of points) ++ filter (is_of ops g) (order_of added)
parts_of ops g points added =
    ap (filter (is_of ops g)) (map-append (λ (p : Point). p.place) points added) ∙ filter-append (is_of ops g) (order_of points) (order_of added)

-- an operation of another granule is none of this one
pub other_granule : (ops : List Operation) (g i : ℕ) → (granule_of (at ops i) == g) ≡ false → is_of ops g i ≡ false
other_granule ops g i other = by_test (is_place ops i) refl
  where
    by_test : (b : Bool) → is_place ops i ≡ b → (is_place ops i && (granule_of (at ops i) == g)) ≡ false
    by_test true inside = ap (λ b. b && (granule_of (at ops i) == g)) inside ∙ other
    by_test false inside = ap (λ b. b && (granule_of (at ops i) == g)) inside

-- an operation of a granule is one of the trace, and of that granule
pub own_granule : (ops : List Operation) (g i : ℕ) → is_of ops g i ≡ true → (is_place ops i ≡ true) × (granule_of (at ops i) ≡ g)
own_granule ops g i own = by_test (is_place ops i) refl (granule_of (at ops i) == g) refl
  where
    by_test : (b : Bool) → is_place ops i ≡ b → (d : Bool) → (granule_of (at ops i) == g) ≡ d → (is_place ops i ≡ true) × (granule_of (at ops i) ≡ g)
    by_test true inside true here = (inside, eqb-true (granule_of (at ops i)) g here)
    by_test true inside false here = absurd (true≢false (sym own ∙ other_granule ops g i here))
    by_test false inside d here = absurd (true≢false (sym own ∙ ap (λ b. b && (granule_of (at ops i) == g)) inside))

-- the walk comes further
pub further : (places : List Placed) (from to : ℕ) (final_words : List GranuleWord) (word next g : ℕ) → Passes places from to final_words word next g
    → to ≤ length places → next ≤ length final_words
    → (length places - to) + (length final_words - next) < (length places - from) + (length final_words - word)
further places from to final_words word next g passes within within_words = by_test (nat_lt from to) refl (nat_lt word next) refl
  where
    by_test : (b : Bool) → nat_lt from to ≡ b → (c : Bool) → nat_lt word next ≡ c
        → (length places - to) + (length final_words - next) < (length places - from) + (length final_words - word)
    by_test true above c is = let less : from < to = grind (arith, nat_tests, above) in let more = passes.word_next in omega (arith, less, more, within, within_words)
    by_test false is true above = let less : word < next = grind (arith, nat_tests, above) in let more = passes.from_to in omega (arith, less, more, within, within_words)
    by_test false is false stays =
        let ahead = passes.from_to in
        let ahead_words = passes.word_next in
        let here : to ≡ from = grind (arith, nat_tests, is, ahead) in
        let there : next ≡ word = grind (arith, nat_tests, stays, ahead_words) in
        absurd (passes.there (
          subst (λ (n : ℕ). All (λ (p : Placed). g < p.granule) (drop n places)) here passes.later,
          subst (λ (n : ℕ). All (λ (w : GranuleWord). g < w.granule) (drop n final_words)) there passes.later_words,
        ))
