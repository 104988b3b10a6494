-- the last operations of an order of the search are those of an order of all that was told
use Rattle.std.proofs.Common.{◌≡◌, ℕ, ◌-◌, ◌<◌, ◌≤◌, nat_lt, List, [], ◌∷◌, ◌++◌, None, All, get_or, length, length-drop, take, refl, sym, ap, subst, ◌∙◌, arith, ltb-true}
use Rattle.std.proofs.lemmas.Bool.{and_parts}
use Rattle.std.proofs.lemmas.List.{append_assoc, take-append-drop}
use Rattle.std.proofs.lemmas.List.Elements.{All-cons, All-contains, All-nil}
use Rattle.chi_history.specs.History.{one_if}
use Rattle.chi_trace.specs.declared.operation.Operation.{Operation}
use Rattle.chi_trace.specs.AtPlaces.{at_places}
use Rattle.chi_trace.specs.Cuts.{cut}
use Rattle.chi_trace.specs.Explains.{is_place, times_in}
use Rattle.chi_trace.specs.Granules.{ExplainsGranule, Finishes}
use Rattle.chi_trace.proofs.Places.{passes}
use Rattle.chi_trace.proofs.ToldAgain.{told_orders}
use Rattle.chi_search.specs.Frontiers.{EndsWith, FrontierValue}
use Rattle.chi_search.specs.Positions.{Position, is_left, is_unsettled}
use Rattle.chi_judge.specs.Judges.{IsEndOfSome, JudgeValue, Keeps}
use Rattle.chi_judge.specs.Reaches.{EndAnOrder, IsJudgeOf}
use Rattle.chi_judge.specs.Searches.{IsSeen}
use Rattle.chi_judge.specs.Shown.{last_of}
use Rattle.chi_judge.proofs.Keeping.{cut_kept}
use Rattle.chi_judge.proofs.Leading.{moved_cut}

-- each place of an order from a position is one of the operations
pub left_places : (n : ℕ) (p : Position) (order : List ℕ) → ((i : ℕ) → times_in order i ≤ one_if (is_left n p i)) → All (λ i. i < n) order
left_places n p order once k d under =
    let i : ℕ = get_or order k d in
    ltb-true i n (and_parts (nat_lt i n) (is_unsettled p i) (passes (is_left n p) order once k d under)).0

-- where an order ends with operations, it ends with the last so many of these
pub ends_last : (told : List Operation) (words : List ℕ) (most : ℕ) (ops : List Operation) → EndsWith told words ops → EndsWith told words (last_of most ops)
ends_last told words most ops e = record {
  from = e.from;
  is_there = e.is_there;
  whole = e.whole;
  finishes = e.finishes;
  earlier = e.earlier ++ take (length ops - most) ops;
  parts = e.parts ∙ ap (λ (l : List Operation). e.earlier ++ l) (sym (take-append-drop (length ops - most) ops)) ∙ sym (append_assoc e.earlier (take (length ops - most) ops) (last_of most ops));
}

module _ (trace : List Operation) (g w : ℕ) (r : JudgeValue) (is : IsJudgeOf trace g w r) (time : ℕ) (seen : IsSeen r time) where
  abbrev k : Keeps (w ∷ []) is.told is.now r
  k = is.keeps

  -- the last operations of an order of what had happened by a time are those of one that explains the granule's operations up to it
  pub ends_by : (most : ℕ) (last : List Operation) → IsEndOfSome r.before (cut time r.kept) most last → EndAnOrder (cut time trace) g w last
  ends_by most last e = record {
    order = own.0;
    explains = own.1;
    earlier = there.earlier;
    parts = own.2 ∙ there.parts;
  }
    where
      same : cut time is.told ≡ k.earlier ++ cut time r.kept
      same = cut_kept (w ∷ []) is.told is.now r k time seen.since seen.before

      there : EndsWith (cut time is.told) (w ∷ []) last
      there =
          subst (λ (l : List Operation). EndsWith l (w ∷ []) last) (sym same)
          (subst (EndsWith (k.earlier ++ cut time r.kept) (w ∷ [])) (sym e.last_is)
          (ends_last (k.earlier ++ cut time r.kept) (w ∷ []) most (at_places (r.before.operations ++ cut time r.kept) e.order) (e.ends (w ∷ []) k.earlier k.follows)))

      first : there.from ≡ w
      first = All-contains (λ x. x ≡ w) (w ∷ []) there.from (All-cons (λ x. x ≡ w) w [] refl (All-nil (λ x. x ≡ w))) there.is_there

      own : (order : List ℕ) × ExplainsGranule (cut time trace) g w None order × (at_places (cut time trace) order ≡ at_places (cut time is.told) there.whole)
      own = told_orders (cut time trace) (cut time is.told) g w None there.whole (moved_cut time g trace is.told is.moved)
          (subst (λ (x : ℕ). Finishes (cut time is.told) (is_place (cut time is.told)) x None there.whole) first there.finishes)

-- which are so many at most
pub within_most : (f : FrontierValue) (more : List Operation) (most : ℕ) (last : List Operation) → IsEndOfSome f more most last → length last ≤ most
within_most f more most last e =
    let ops = at_places (f.operations ++ more) e.order in
    omega (arith, ap length e.last_is, length-drop (length ops - most) ops)
