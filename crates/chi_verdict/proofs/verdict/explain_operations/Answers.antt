-- the walk begins, goes on past a granule, and has passed all
use Rattle.std.proofs.Common.{◌≡◌, ℕ, ◌+◌, ◌-◌, List, All, Option, None, true, take, drop, filter, get_or, refl, sym, ap, subst, ◌∙◌, arith, is_some, true≢false, inl, inr}
use Rattle.std.proofs.lemmas.List.Elements.{All-map}
use Rattle.chi_search.specs.declared.order.Found.{Found}
use Rattle.chi_search.specs.Found.{IfNothing, IfOrder, IfUndecided}
use Rattle.chi_trace.specs.Explains.{is_place, word_of}
use Rattle.chi_trace.specs.Granules.{ExplainsGranule, is_of}
use Rattle.chi_verdict.specs.declared.merge_orders.Point.{Point}
use Rattle.chi_trace.specs.declared.words.GranuleWord.{GranuleWord}
use Rattle.chi_verdict.specs.Groups.{IsGrouped}
use Rattle.chi_verdict.specs.Points.{order_of}
use Rattle.chi_trace.specs.Words.{find_word, memory_of, word_or_zero}
use Rattle.chi_trace.proofs.Memory.{IsMemory-memory_of, word_of-memory_of}
use Rattle.chi_verdict.proofs.Parts.{group_of}
use Rattle.chi_search.proofs.Looking.{more_after, none_more}
use Rattle.chi_verdict.proofs.Spent.{looked_on}
use Rattle.chi_verdict.proofs.Walked.{Passes, Walked, further, no_lower, past_below}
use Rattle.chi_verdict.proofs.WalkedOn.{begins, found, goes_on, inside_of, undecided_on}
use Rattle.chi_verdict.proofs.verdict.explain_operations.Goals as goal
use Rattle.chi_verdict.proofs.verdict.explain_operations.Given.{Over}
use Rattle.chi_verdict.proofs.verdict.explain_operations.Goals.{in-Order+in_ok-add_points-in-Order, in-Undecided+then-is_none, in-Undecided+else-is_none}

pub loop-granule-init : goal.loop-granule-init
loop-granule-init g c =
    let places = c.as_slice-places.result.now in
    let grouped = subst (IsGrouped c.args.ops.now (is_place c.args.ops.now)) (sym c.as_slice-places.ensures.value) c.in_ok-grouped.ensures in
    record {
      from_in = omega arith;
      word_in = omega arith;
      walked = subst (Walked c.args.opening.now c.as_slice-words.result.now c.args.ops.now places 0 0 None) (sym c.in_ok-points.ensures.items)
          (begins c.args.opening.now c.as_slice-words.result.now c.args.ops.now places grouped);
      looked = (0, none_more g.P.Progress.looked c.args.progress.now 0 refl, λ n is. absurd (true≢false (sym (ap is_some is))));
    }

pub past_granule-to-requires-clause-least : goal.past_granule-to-requires-clause-least
past_granule-to-requires-clause-least g c =
    no_lower (λ p. p.granule) (drop c.loop-granule.from c.as_slice-places.result.now) c.in-Some.granule (λ h below. (c.in-Some.ensures.least h below).0)

pub search_granule-requires-clause-grouped : goal.search_granule-requires-clause-grouped
search_granule-requires-clause-grouped g c =
    let places = c.as_slice-places.result.now in
    let grouped = subst (IsGrouped c.args.ops.now (is_place c.args.ops.now)) (sym c.as_slice-places.ensures.value) c.in_ok-grouped.ensures in
    group_of c.args.ops.now places c.loop-granule.from c.past_granule-to.result c.in-Some.granule grouped c.past_granule-to.ensures.from c.past_granule-to.ensures.within
    (λ k d under. past_below places c.loop-granule.from c.as_slice-words.result.now c.loop-granule.last_place c.in-Some.granule (get_or (take c.loop-granule.from places) k d).granule
    c.in-Some.ensures.there (c.loop-granule.invariant.walked.behind k d under))
    c.past_granule-to.ensures.own c.past_granule-to.ensures.later

pub add_points-requires-clause-places : goal.add_points-requires-clause-places
add_points-requires-clause-places g c =
    let explains = subst (λ (f : Found). IfOrder f (λ order. ExplainsGranule c.args.ops.now c.in-Some.granule c.word.result c.get-final_word.result order)) c.in-Order.is c.in_ok-order.ensures.order in
    subst (All (λ i. is_place c.args.ops.now i ≡ true)) (sym c.deref.ensures.value)
    (inside_of c.args.ops.now c.in-Some.granule c.word.result c.get-final_word.result c.in-Order.order.items explains)

pub returns-in-Nothing-clause-unexplained : goal.returns-in-Nothing-clause-unexplained
returns-in-Nothing-clause-unexplained g c order explains =
    let ops = c.args.ops.now in
    let n = c.in-Some.granule in
    let memory = memory_of c.args.opening.now in
    let none = subst (λ (f : Found). IfNothing f ((x : List ℕ) → ExplainsGranule ops n c.word.result c.get-final_word.result x → ⊥)) c.in-Nothing.is c.in_ok-order.ensures.nothing in
    let part = (c.parts_explain.ensures memory (find_word c.args.final_words.now) ops order (IsMemory-memory_of c.args.opening.now) c.requires.traced explains n).0 in
    let word = word_of-memory_of c.args.opening.now n c.requires.words ∙ sym c.word.ensures in
    none (filter (is_of ops n) order)
    (subst (λ (w : ℕ). ExplainsGranule ops n w c.get-final_word.result (filter (is_of ops n) order)) word
    (subst (λ (f : Option ℕ). ExplainsGranule ops n (word_of memory n) f (filter (is_of ops n) order)) (sym c.get-final_word.ensures) part))

pub past_word-last_place-requires-clause-told : goal.past_word-last_place-requires-clause-told
past_word-last_place-requires-clause-told g c = c.loop-granule.invariant.word_in

pub past_word-last_place-requires-clause-least : goal.past_word-last_place-requires-clause-least
past_word-last_place-requires-clause-least g c =
    no_lower (λ (w : GranuleWord). w.granule) (drop c.loop-granule.last_place c.as_slice-words.result.now) c.in-Some.granule (λ h below. (c.in-Some.ensures.least h below).1)

-- the walk passes the granule
passes : (g : Over) (c : goal.After-past_word-last_place g)
    → Passes c.as_slice-places.result.now c.loop-granule.from c.past_granule-to.result c.as_slice-words.result.now c.loop-granule.last_place c.past_word-last_place.result c.in-Some.granule
passes g c = record {
  least = c.in-Some.ensures.least;
  there = c.in-Some.ensures.there;
  from_to = c.past_granule-to.ensures.from;
  own = c.past_granule-to.ensures.own;
  later = c.past_granule-to.ensures.later;
  word_next = c.past_word-last_place.ensures.from;
  own_words = c.past_word-last_place.ensures.own;
  later_words = c.past_word-last_place.ensures.later;
}

pub loop-granule-smaller : goal.loop-granule-smaller
loop-granule-smaller g c =
    further c.as_slice-places.result.now c.loop-granule.from c.past_granule-to.result c.as_slice-words.result.now c.loop-granule.last_place c.past_word-last_place.result c.in-Some.granule
    (passes g c) c.past_granule-to.ensures.within c.past_word-last_place.ensures.within

pub loop-granule-preserved : goal.loop-granule-preserved
loop-granule-preserved g c =
    let ops = c.args.ops.now in
    let places = c.as_slice-places.result.now in
    let words = c.as_slice-words.result.now in
    let opening = c.args.opening.now in
    let n = c.in-Some.granule in
    let from = c.loop-granule.from in
    let to = c.past_granule-to.result in
    let word = c.loop-granule.last_place in
    let next = c.past_word-last_place.result in
    let grouped = subst (IsGrouped ops (is_place ops)) (sym c.as_slice-places.ensures.value) c.in_ok-grouped.ensures in
    let walked = c.loop-granule.invariant.walked in
    let points = c.loop-granule.points.items in
    let undecided = c.loop-granule.undecided in
    let after = c.match-branch-4.undecided in
    record {
      from_in = c.past_granule-to.ensures.within;
      word_in = c.past_word-last_place.ensures.within;
      walked = elim c.match-branch-4.branch [
        | in-Order+in_ok-add_points-in-Order w ↦
            let added = w.in_ok-add_points-in-Order.ensures in
            let explains = subst (λ (f : Found). IfOrder f (λ order. ExplainsGranule ops n c.word.result c.get-final_word.result order)) w.in-Order.is c.in_ok-order.ensures.order in
            let own = subst (λ (v : ℕ). ExplainsGranule ops n v (find_word words n) w.in-Order.order.items) c.word.ensures
            (subst (λ (f : Option ℕ). ExplainsGranule ops n c.word.result f w.in-Order.order.items) (c.get-final_word.ensures ∙ ap (λ ws. find_word ws n) (sym c.as_slice-words.ensures.words)) explains) in
            subst (λ (o : Option ℕ). Walked opening words ops places to next o c.match-branch-4.points.items) (sym w.undecided-is)
            (subst (Walked opening words ops places to next undecided) (sym (ap (λ v. v.items) w.points-is ∙ added.1))
            (goes_on opening words ops places from to word next undecided undecided points added.0 n grouped walked (passes g c)
            (found opening words ops places from to word next undecided points added.0 n w.in-Order.order.items walked (passes g c) own
            (added.2 ∙ w.deref.ensures.value) added.3 added.4)))
        | in-Undecided+then-is_none w ↦
            subst (λ (p : List Point). Walked opening words ops places to next after p) (sym (ap (λ v. v.items) w.points-is))
            (undecided_on opening words ops places from to word next undecided after points n grouped walked (passes g c) (λ none. true≢false (ap is_some (sym w.undecided-is ∙ none))))
        | in-Undecided+else-is_none w ↦
            subst (λ (p : List Point). Walked opening words ops places to next after p) (sym (ap (λ v. v.items) w.points-is))
            (undecided_on opening words ops places from to word next undecided after points n grouped walked (passes g c) (λ none. true≢false (sym w.if-is_none.ensures ∙ ap is_some (sym w.undecided-is ∙ none))))
      ];
      looked = looked_on g.P.Progress.looked c.args.progress.now c.loop-granule.progress c.search_granule.new.progress c.args.budget c.search_granule.new.budget undecided after
          c.loop-granule.invariant.looked c.in_ok-order.ensures.spends.1 (elim c.match-branch-4.branch [
            | in-Order+in_ok-add_points-in-Order w ↦ inl w.undecided-is
            | in-Undecided+then-is_none w ↦ inr (subst (λ (f : Found). IfUndecided f (c.search_granule.new.budget ≡ 0)) w.in-Undecided.is c.in_ok-order.ensures.undecided)
            | in-Undecided+else-is_none w ↦ inr (subst (λ (f : Found). IfUndecided f (c.search_granule.new.budget ≡ 0)) w.in-Undecided.is c.in_ok-order.ensures.undecided)
          ]);
    }

pub merge_orders-requires-clause-points : goal.merge_orders-requires-clause-points
merge_orders-requires-clause-points g c = c.loop-granule.invariant.walked.pointed

pub merge_orders-requires-clause-ordered : goal.merge_orders-requires-clause-ordered
merge_orders-requires-clause-ordered g c = c.loop-granule.invariant.walked.ordered

pub returns-clause-explained : goal.returns-clause-explained
returns-clause-explained g c =
    let ops = c.args.ops.now in
    let opening = c.args.opening.now in
    let order = c.in_ok-order-2.order.items in
    let walked = c.loop-granule.invariant.walked in
    let points = c.loop-granule.points.items in
    let places = c.in_ok-order-2.ensures.places (All-map (λ i. is_place ops i ≡ true) (λ (p : Point). p.place) points walked.inside) in
    let final_words = c.as_slice-words.ensures.words in
    (c.parts_join.ensures (memory_of opening) (find_word c.args.final_words.now) ops order (IsMemory-memory_of opening) c.requires.traced places c.in_ok-order-2.ensures.times
    (λ n. subst (λ (w : ℕ). ExplainsGranule ops n w (find_word c.args.final_words.now n) (filter (is_of ops n) order)) (sym (word_of-memory_of opening n c.requires.words))
    (subst (ExplainsGranule ops n (word_or_zero opening n) (find_word c.args.final_words.now n)) (sym (c.in_ok-order-2.ensures.parts n))
    (subst (λ ws. ExplainsGranule ops n (word_or_zero opening n) (find_word ws n) (filter (is_of ops n) (order_of points))) final_words
    (walked.explained c.in_default-undecided.is n (c.in_default.ensures.none refl n)))))).0

pub returns-in-Nothing-clause-spent : goal.returns-in-Nothing-clause-spent
returns-in-Nothing-clause-spent g c =
    let before = c.loop-granule.invariant.looked in
    let more = c.args.budget - c.search_granule.new.budget in
    record {
      count = before.0 + more;
      more = more_after g.P.Progress.looked c.args.progress.now c.loop-granule.progress c.search_granule.new.progress before.0 more (before.0 + more) refl before.1
          c.in_ok-order.ensures.spends.1;
      undecided = tt;
    }

pub returns-clause-spent : goal.returns-clause-spent
returns-clause-spent g c =
    let looked = c.loop-granule.invariant.looked in
    record { count = looked.0; more = looked.1; undecided = tt }
