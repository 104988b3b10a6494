-- a walk begins, and goes on past one granule
use Rattle.std.proofs.Common.{◌≡◌, ℕ, ◌<◌, ◌≤◌, nat_lt, Bool, true, false, List, [], ◌∷◌, ◌++◌, All, Option, None, take, filter, get_or, refl, sym, ap, subst, ◌∙◌, arith}
use Rattle.std.proofs.lemmas.Bool.Decides.{nat_tests}
use Rattle.std.proofs.lemmas.List.{append-nil}
use Rattle.std.proofs.lemmas.List.Elements.{All-append, All-cons, All-head, All-tail}
use Rattle.std.specs.List.Sorted.{IsNonDecreasingBy}
use Rattle.chi_trace.specs.declared.operation.Operation.{Operation}
use Rattle.chi_trace.specs.Explains.{at, is_place}
use Rattle.chi_trace.specs.Granules.{ExplainsGranule, granule_of, is_of}
use Rattle.chi_trace.proofs.Places.{passes as passes_all}
use Rattle.chi_verdict.specs.declared.grouping.Placed.{Placed}
use Rattle.chi_verdict.specs.declared.merge_orders.Point.{Point}
use Rattle.chi_trace.specs.declared.words.GranuleWord.{GranuleWord}
use Rattle.chi_verdict.specs.Groups.{IsGrouped}
use Rattle.chi_verdict.specs.Points.{ArePoints, AreOrdered, order_of}
use Rattle.chi_verdict.specs.PastGranules.{IsPast}
use Rattle.chi_trace.specs.Words.{find_word, word_or_zero}
use Rattle.chi_verdict.proofs.Gained.{ordered_on}
use Rattle.chi_trace.proofs.Memory.{none_told}
use Rattle.chi_verdict.proofs.Walked.{Passes, Walked, all_of, at_most, never, none_of, not_there, now_past, other_granule, own_granule, parts_of, past_below, untouched}

-- what has been found of one more granule: its points, and that they explain it where none is undecided
pub record Finds (opening final_words : List GranuleWord) (ops : List Operation) (g : ℕ) (undecided after : Option ℕ) (points added : List Point) : Type 0 where
  pub pointed : ArePoints ops added
  pub ordered : AreOrdered ops (points ++ added)
  pub own : All (λ p. is_of ops g p.place ≡ true) added
  pub explained : after ≡ None → (undecided ≡ None) × ExplainsGranule ops g (word_or_zero opening g) (find_word final_words g) (order_of added)

-- of each point that stands already the granule comes before
pub earlier : (opening final_words : List GranuleWord) (ops : List Operation) (places : List Placed) (from to word next : ℕ) (undecided : Option ℕ) (points : List Point) (g : ℕ)
    → Walked opening final_words ops places from word undecided points → Passes places from to final_words word next g → All (λ p. granule_of (at ops p.place) < g) points
earlier opening final_words ops places from to word next undecided points g walked passes k d under =
    past_below places from final_words word g (granule_of (at ops (get_or points k d).place)) passes.there (walked.past k d under)

-- so none is of the granule, or of a later one
pub others : (opening final_words : List GranuleWord) (ops : List Operation) (places : List Placed) (from to word next : ℕ) (undecided : Option ℕ) (points : List Point) (g h : ℕ)
    → Walked opening final_words ops places from word undecided points → Passes places from to final_words word next g → g ≤ h → All (λ p. is_of ops h p.place ≡ false) points
others opening final_words ops places from to word next undecided points g h walked passes least k d under =
    let below = earlier opening final_words ops places from to word next undecided points g walked passes k d under in
    other_granule ops h (get_or points k d).place (grind (arith, nat_tests, below, least))

-- the walk past one more granule
pub goes_on : (opening final_words : List GranuleWord) (ops : List Operation) (places : List Placed) (from to word next : ℕ) (undecided after : Option ℕ) (points added : List Point) (g : ℕ)
    → IsGrouped ops (is_place ops) places → Walked opening final_words ops places from word undecided points → Passes places from to final_words word next g
    → Finds opening final_words ops g undecided after points added
    → Walked opening final_words ops places to next after (points ++ added)
goes_on opening final_words ops places from to word next undecided after points added g grouped walked passes finds = record {
  behind = λ k d under. past (get_or (take to places) k d).granule (places_most k d under);
  behind_words = λ k d under. past (get_or (take next final_words) k d).granule (words_most k d under);
  pointed = All-append IsPoint points added walked.pointed finds.pointed;
  ordered = finds.ordered;
  inside = All-append IsInside points added walked.inside (λ k d under. (own_granule ops g (get_or added k d).place (finds.own k d under)).0);
  past = All-append HasPassed points added
      (λ k d under. let below = earlier opening final_words ops places from to word next undecided points g walked passes k d under in past (granule_of (at ops (get_or points k d).place)) (omega (arith, below)))
      (λ k d under. let is = (own_granule ops g (get_or added k d).place (finds.own k d under)).1 in past (granule_of (at ops (get_or added k d).place)) (omega (arith, is)));
  explained = λ none h passed. by_order h (nat_lt h g) refl (nat_lt g h) refl (finds.explained none) passed;
}
  where
    IsPoint : Point → Type 0
    IsPoint p = ((at ops p.place).start ≤ p.time) × (p.time ≤ (at ops p.place).end)

    IsInside : Point → Type 0
    IsInside p = is_place ops p.place ≡ true

    HasPassed : Point → Type 0
    HasPassed p = IsPast places to final_words next (granule_of (at ops p.place))

    past : (h : ℕ) → h ≤ g → IsPast places to final_words next h
    past h below = now_past places from to final_words word next g h passes below

    places_most : All (λ (p : Placed). p.granule ≤ g) (take to places)
    places_most = at_most (λ (p : Placed). p.granule) places from to g passes.from_to
        (λ k d under. past_below places from final_words word g (get_or (take from places) k d).granule passes.there (walked.behind k d under)) passes.own

    words_most : All (λ (w : GranuleWord). w.granule ≤ g) (take next final_words)
    words_most = at_most (λ (w : GranuleWord). w.granule) final_words word next g passes.word_next
        (λ k d under. past_below places from final_words word g (get_or (take word final_words) k d).granule passes.there (walked.behind_words k d under)) passes.own_words

    Is : ℕ → List ℕ → Type 0
    Is h order = ExplainsGranule ops h (word_or_zero opening h) (find_word final_words h) order

    before : (h : ℕ) → h < g → undecided ≡ None → Is h (filter (is_of ops h) (order_of (points ++ added)))
    before h below none =
        let else : All (λ (p : Point). is_of ops h p.place ≡ false) added =
        λ k d under. let is = (own_granule ops g (get_or added k d).place (finds.own k d under)).1 in other_granule ops h (get_or added k d).place (grind (arith, nat_tests, is, below)) in
        subst (Is h) (sym (parts_of ops h points added ∙ ap (λ x. filter (is_of ops h) (order_of points) ++ x) (none_of ops h added else) ∙ append-nil (filter (is_of ops h) (order_of points))))
        (walked.explained none h (passes.least h below))

    here : Is g (order_of added) → Is g (filter (is_of ops g) (order_of (points ++ added)))
    here is =
        let none = none_of ops g points (others opening final_words ops places from to word next undecided points g g walked passes (omega arith)) in
        subst (Is g) (sym (parts_of ops g points added ∙ ap (λ x. x ++ filter (is_of ops g) (order_of added)) none ∙ all_of ops g added finds.own)) is

    behind : (h : ℕ) → g < h → IsPast places to final_words next h → Is h (filter (is_of ops h) (order_of (points ++ added)))
    behind h above passed =
        let else : All (λ (p : Point). is_of ops h p.place ≡ false) added =
        λ k d under. let is = (own_granule ops g (get_or added k d).place (finds.own k d under)).1 in other_granule ops h (get_or added k d).place (grind (arith, nat_tests, is, above)) in
        let none = none_of ops h points (others opening final_words ops places from to word next undecided points g h walked passes (omega (arith, above))) in
        let nothing : filter (is_of ops h) (order_of (points ++ added)) ≡ [] =
        parts_of ops h points added ∙ ap (λ x. x ++ filter (is_of ops h) (order_of added)) none ∙ none_of ops h added else in
        subst (Is h) (sym nothing)
        (untouched ops h (word_or_zero opening h) (find_word final_words h) (not_there ops places h grouped (never (λ (p : Placed). p.granule) places to g h above places_most passed.0))
        (none_told final_words h (never (λ (w : GranuleWord). w.granule) final_words next g h above words_most passed.1)))

    by_order : (h : ℕ) → (b : Bool) → nat_lt h g ≡ b → (c : Bool) → nat_lt g h ≡ c → (undecided ≡ None) × Is g (order_of added) → IsPast places to final_words next h
        → Is h (filter (is_of ops h) (order_of (points ++ added)))
    by_order h true below c is found passed = before h (grind (arith, nat_tests, below)) found.0
    by_order h false below true above found passed = behind h (grind (arith, nat_tests, above)) passed
    by_order h false below false above found passed =
        let same : g ≡ h = grind (arith, nat_tests, below, above) in
        subst (λ (n : ℕ). Is n (filter (is_of ops n) (order_of (points ++ added)))) same (here found.1)

-- the walk has not begun
pub begins : (opening final_words : List GranuleWord) (ops : List Operation) (places : List Placed) → IsGrouped ops (is_place ops) places
    → Walked opening final_words ops places 0 0 None []
begins opening final_words ops places grouped = record {
  behind = λ k d under. absurd (omega (arith, under));
  behind_words = λ k d under. absurd (omega (arith, under));
  pointed = λ k d under. absurd (omega (arith, under));
  ordered = λ g i j d between under. absurd (omega (arith, under));
  inside = λ k d under. absurd (omega (arith, under));
  past = λ k d under. absurd (omega (arith, under));
  explained = λ none g passed. untouched ops g (word_or_zero opening g) (find_word final_words g)
      (not_there ops places g grouped (λ k d under. let above = passed.0 k d under in grind (arith, nat_tests, above)))
      (none_told final_words g (λ k d under. let above = passed.1 k d under in grind (arith, nat_tests, above)));
}

-- what is true of each operation of an order is true of each of its points
of_points : (P : ℕ → Type 0) (points : List Point) → All P (order_of points) → All (λ p. P p.place) points
of_points P [] all = λ k d under. absurd (omega (arith, under))
of_points P (p ∷ points) all =
    All-cons (λ (q : Point). P q.place) p points (All-head P p.place (order_of points) all) (of_points P points (All-tail P p.place (order_of points) all))

-- an order of the granule was found
pub found : (opening final_words : List GranuleWord) (ops : List Operation) (places : List Placed) (from to word next : ℕ) (undecided : Option ℕ) (points added : List Point) (g : ℕ) (order : List ℕ)
    → Walked opening final_words ops places from word undecided points → Passes places from to final_words word next g
    → ExplainsGranule ops g (word_or_zero opening g) (find_word final_words g) order
    → order_of added ≡ order → ArePoints ops added → IsNonDecreasingBy (λ (p : Point). p.time) added
    → Finds opening final_words ops g undecided undecided points added
found opening final_words ops places from to word next undecided points added g order walked passes explains same pointed rises = record {
  pointed = pointed;
  ordered = ordered_on ops points added g walked.ordered rises (others opening final_words ops places from to word next undecided points g g walked passes (omega arith)) own;
  own = own;
  explained = λ none. (none, subst (ExplainsGranule ops g (word_or_zero opening g) (find_word final_words g)) (sym same) explains);
}
  where
    own : All (λ (p : Point). is_of ops g p.place ≡ true) added
    own = of_points (λ i. is_of ops g i ≡ true) added (subst (All (λ i. is_of ops g i ≡ true)) (sym same) (passes_all (is_of ops g) order explains.once))

-- the granule was undecided
pub undecided_on : (opening final_words : List GranuleWord) (ops : List Operation) (places : List Placed) (from to word next : ℕ) (undecided after : Option ℕ) (points : List Point) (g : ℕ)
    → IsGrouped ops (is_place ops) places → Walked opening final_words ops places from word undecided points → Passes places from to final_words word next g
    → (after ≡ None → ⊥) → Walked opening final_words ops places to next after points
undecided_on opening final_words ops places from to word next undecided after points g grouped walked passes some =
    subst (Walked opening final_words ops places to next after) (append-nil points)
    (goes_on opening final_words ops places from to word next undecided after points [] g grouped walked passes (record {
      pointed = λ k d under. absurd (omega (arith, under));
      ordered = subst (AreOrdered ops) (sym (append-nil points)) walked.ordered;
      own = λ k d under. absurd (omega (arith, under));
      explained = λ none. absurd (some none);
    }))

-- an order of a granule's operations has only places of the trace
pub inside_of : (ops : List Operation) (g w : ℕ) (final_word : Option ℕ) (order : List ℕ) → ExplainsGranule ops g w final_word order → All (λ i. is_place ops i ≡ true) order
inside_of ops g w final_word order explains k d under = (own_granule ops g (get_or order k d) (passes_all (is_of ops g) order explains.once k d under)).0
