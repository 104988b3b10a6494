-- what a granule's operations lead to, and what explains them up to a time
use Rattle.std.proofs.Common.{◌≡◌, ℕ, nat_le, Bool, true, false, cond, List, [], ◌∷◌, None, Some, filter, map, refl, sym, ap, subst, ◌∙◌, arith}
use Rattle.std.specs.Prelude.{IsPermutation}
use Rattle.std.proofs.lemmas.List.Elements.{All-cons, All-contains, All-nil, Contains-get_or}
use Rattle.std.proofs.lemmas.List.Sorted.{IsPermutation-map}
use Rattle.chi_trace.specs.declared.operation.Operation.{Operation}
use Rattle.chi_trace.specs.AtPlaces.{GranulesStandAlone, is_in}
use Rattle.chi_trace.specs.Cuts.{cut, has_started, operation_at}
use Rattle.chi_trace.specs.Explains.{is_place}
use Rattle.chi_trace.specs.Granules.{Finishes, last_word}
use Rattle.chi_search.specs.Layers.{SomeLeads}
use Rattle.chi_judge.specs.Reaches.{CanLeave, IsExplained}
use Rattle.chi_judge.proofs.Lists.{IsPermutation-filter}

-- what was known of an operation is of the same granule
known_in : (g time : ℕ) (op : Operation) → is_in g (operation_at time op) ≡ is_in g op
known_in g time op = by_test (nat_le op.end time)
  where
    by_test : (b : Bool) → is_in g (cond b op (record op { reply = None })) ≡ is_in g op
    by_test true = refl
    by_test false = refl

-- a cut of the granule's operations
pub cut_filter : (time g : ℕ) (ops : List Operation) → filter (is_in g) (cut time ops) ≡ cut time (filter (is_in g) ops)
cut_filter time g [] = refl
cut_filter time g (op ∷ ops) = by_tests (has_started time op) (is_in g op) refl (known_in g time op) (cut_filter time g ops)
  where
    own : List Operation
    own = filter (is_in g) ops

    by_tests : (s b : Bool) → has_started time op ≡ s → is_in g (operation_at time op) ≡ b → filter (is_in g) (cut time ops) ≡ cut time own
        → filter (is_in g) (map (operation_at time) (cond s (op ∷ filter (has_started time) ops) (filter (has_started time) ops)))
        ≡ map (operation_at time) (filter (has_started time) (cond b (op ∷ own) own))
    by_tests true true started is rest =
        ap (λ (c : Bool). cond c (operation_at time op ∷ filter (is_in g) (cut time ops)) (filter (is_in g) (cut time ops))) is
        ∙ (ap (λ (l : List Operation). operation_at time op ∷ l) rest
        ∙ ap (λ (c : Bool). map (operation_at time) (cond c (op ∷ filter (has_started time) own) (filter (has_started time) own))) (sym started))
    by_tests true false started is rest =
        ap (λ (c : Bool). cond c (operation_at time op ∷ filter (is_in g) (cut time ops)) (filter (is_in g) (cut time ops))) is ∙ rest
    by_tests false true started is rest =
        rest ∙ ap (λ (c : Bool). map (operation_at time) (cond c (op ∷ filter (has_started time) own) (filter (has_started time) own))) (sym started)
    by_tests false false started is rest = rest

-- a cut of operations in another order
pub cut_moved : (time : ℕ) (a b : List Operation) → IsPermutation a b → IsPermutation (cut time a) (cut time b)
cut_moved time a b moved =
    IsPermutation-map (operation_at time) (filter (has_started time) a) (filter (has_started time) b) (IsPermutation-filter (has_started time) a b moved)

pub moved_cut : (time g : ℕ) (trace told : List Operation) → IsPermutation (filter (is_in g) trace) told → IsPermutation (filter (is_in g) (cut time trace)) (cut time told)
moved_cut time g trace told moved =
    subst (λ (l : List Operation). IsPermutation l (cut time told)) (sym (cut_filter time g trace)) (cut_moved time (filter (is_in g) trace) told moved)

-- an order of the granule leads to the word that it leaves, and the other way round
pub leads_from : GranulesStandAlone → (trace ops : List Operation) (g w v : ℕ) → IsPermutation (filter (is_in g) trace) ops → CanLeave trace g w v → SomeLeads ops (w ∷ []) v
leads_from law trace ops g w v moved can = (w, Contains-get_or (w ∷ []) 0 0 (omega arith), (law trace ops g w (Some v) moved).0 can)

pub leaves_from : GranulesStandAlone → (trace ops : List Operation) (g w v : ℕ) → IsPermutation (filter (is_in g) trace) ops → SomeLeads ops (w ∷ []) v → CanLeave trace g w v
leaves_from law trace ops g w v moved (u, one, led) =
    let first : u ≡ w = All-contains (λ x. x ≡ w) (w ∷ []) u (All-cons (λ x. x ≡ w) w [] refl (All-nil (λ x. x ≡ w))) one in
    (law trace ops g w (Some v) moved).1 (subst (λ (x : ℕ). (order : List ℕ) × Finishes ops (is_place ops) x (Some v) order) first led)

-- an order that explains leaves some word
pub leaves_some : (time : ℕ) (trace : List Operation) (g w : ℕ) → IsExplained time trace g w → (v : ℕ) × CanLeave (cut time trace) g w v
leaves_some time trace g w (order, e) =
    (last_word (cut time trace) w order, (order, record { done = e.done; once = e.once; times = e.times; plays = e.plays; ending = refl }))

pub explained_from : (time : ℕ) (trace : List Operation) (g w v : ℕ) → CanLeave (cut time trace) g w v → IsExplained time trace g w
explained_from time trace g w v (order, e) = (order, record { done = e.done; once = e.once; times = e.times; plays = e.plays; ending = tt })
