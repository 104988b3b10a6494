-- operations as far as they had happened before something that is not told may have written to their granules
use Rattle.std.specs.Prelude.{nat_lt, option_to_list, IsPermutation}
use Rattle.std.proofs.Common.{◌≡◌, ℕ, zero, suc, ◌+◌, ◌^◌, ◌≤◌, ◌++◌, ◌⊎◌, inl, inr, Bool, true, false, cond, get_or, length, List, [], ◌∷◌, All, Option, Some, None}
use Rattle.std.proofs.Common.{filter, flat_map, map, refl, sym, ap, ap₂, subst, ◌∙◌, arith}
use Rattle.std.proofs.lemmas.List.Sorted.{IsPermutation-map}
use Rattle.std.proofs.lemmas.List.Elements.{All-cons, All-head, All-nil, All-tail, filter-append}
use Rattle.chi_fields.specs.Access.{Access, IsLawful}
use Rattle.chi_events.specs.declared.event.Event.{Event}
use Rattle.chi_judge.specs.Until.{until}
use Rattle.chi_judge.proofs.Cutting.{stays_known}
use Rattle.chi_judge.proofs.Lists.{IsPermutation-filter}
use Rattle.chi_judge.proofs.UntilLists.{until-filter}
use Rattle.chi_trace.specs.AtPlaces.{is_in}
use Rattle.chi_trace.specs.Cuts.{has_started, operation_at}
use Rattle.chi_trace.specs.Explains.{IsOperation, IsTrace}
use Rattle.chi_trace.specs.Granules.{granule_of}
use Rattle.chi_trace.specs.declared.operation.Operation.{Operation}
use Rattle.chi_watch.specs.Judged.{judged_part, unknown_at}

-- of no operations nothing had happened
pub until-nil : (u : Option ℕ) → until u [] ≡ []
until-nil None = refl
until-nil (Some zero) = refl
until-nil (Some (suc time)) = refl

-- an operation as far as it had happened is of its granule
part_own : (u : Option ℕ) (g : ℕ) (op : Operation) → filter (is_in g) (until u (op ∷ [])) ≡ until u (cond (is_in g op) (op ∷ []) [])
part_own u g op = until-filter u g (op ∷ [])

-- What is judged of a granule's operations is of the granule.
pub judged_own : (events : List Event) (g : ℕ) (ops : List Operation) → filter (is_in g) (flat_map (judged_part events) ops) ≡ flat_map (judged_part events) (filter (is_in g) ops)
judged_own events g [] = refl
judged_own events g (op ∷ ops) =
    filter-append (is_in g) (judged_part events op) (flat_map (judged_part events) ops)
    ∙ (ap (λ l. l ++ filter (is_in g) (flat_map (judged_part events) ops)) (part_own (unknown_at events (granule_of op) op.start) g op)
    ∙ by_test (is_in g op) (judged_own events g ops))
  where
    since : Option ℕ
    since = unknown_at events (granule_of op) op.start

    by_test : (b : Bool) → filter (is_in g) (flat_map (judged_part events) ops) ≡ flat_map (judged_part events) (filter (is_in g) ops)
        → until since (cond b (op ∷ []) []) ++ filter (is_in g) (flat_map (judged_part events) ops) ≡ flat_map (judged_part events) (cond b (op ∷ filter (is_in g) ops) (filter (is_in g) ops))
    by_test true rest = ap (λ l. until since (op ∷ []) ++ l) rest
    by_test false rest = ap (λ l. l ++ filter (is_in g) (flat_map (judged_part events) ops)) (until-nil since) ∙ rest

-- an operation of which the reply may not have come
pub record IsPartOf (op part : Operation) : Type 0 where
  pub start : part.start ≡ op.start
  pub end : part.end ≡ op.end
  pub access : part.access ≡ op.access

-- an operation as far as it had happened: none, or one
abbrev IsPart : Operation → List Operation → Type 0
IsPart op ops = (ops ≡ []) ⊎ ((part : Operation) × (ops ≡ part ∷ []) × IsPartOf op part)

part_itself : (op : Operation) → IsPartOf op op
part_itself op = record { start = refl; end = refl; access = refl }

is_part : (u : Option ℕ) (op : Operation) → IsPart op (until u (op ∷ []))
is_part None op = inr (op, refl, part_itself op)
is_part (Some zero) op = inl refl
is_part (Some (suc time)) op = by_test (has_started time op)
  where
    by_test : (b : Bool) → IsPart op (map (operation_at time) (cond b (op ∷ []) []))
    by_test true = inr (operation_at time op, refl, stays_known (IsPartOf op) (λ part is. record { start = is.start; end = is.end; access = is.access }) time op (part_itself op))
    by_test false = inl refl

-- one that had happened so far is such a part
pub heard_is : (u : Option ℕ) (op heard : Operation) → option_to_list (Some heard) ≡ until u (op ∷ []) → IsPartOf op heard
heard_is u op heard is = elim (is_part u op) [
  | inl none ↦ absurd (omega (arith, ap length (is ∙ none)))
  | inr (part, one, part_is) ↦ subst (IsPartOf op) (sym (head_is (is ∙ one))) part_is
]
  where
    head_is : {x y : Operation} → x ∷ [] ≡ y ∷ [] → x ≡ y
    head_is {x} same = ap (λ l. get_or l 0 x) same

-- what is so of it, is so of such a part
pub part_all : (u : Option ℕ) (op : Operation) (P : Operation → Type 0) → ((part : Operation) → IsPartOf op part → P op → P part) → P op → All P (until u (op ∷ []))
part_all u op P keeps of_op = elim (is_part u op) [
  | inl none ↦ subst (All P) (sym none) (All-nil P)
  | inr (part, one, is) ↦ subst (All P) (sym one) (All-cons P part [] (keeps part is of_op) (All-nil P))
]

-- so what is judged starts no earlier than a time before which none starts
part_late : (events : List Event) (from : ℕ) (ops : List Operation) → All (λ op. from ≤ op.start) ops → All (λ op. from ≤ op.start) (flat_map (judged_part events) ops)
part_late events from [] late = All-nil (λ (op : Operation). from ≤ op.start)
part_late events from (op ∷ ops) late =
    by_part (judged_part events op) (is_part (unknown_at events (granule_of op) op.start) op) (part_late events from ops (All-tail (λ (o : Operation). from ≤ o.start) op ops late))
  where
    rest : List Operation
    rest = flat_map (judged_part events) ops

    by_part : (own : List Operation) → IsPart op own → All (λ o. from ≤ o.start) rest → All (λ o. from ≤ o.start) (own ++ rest)
    by_part own (inl none) all = subst (λ l. All (λ (o : Operation). from ≤ o.start) (l ++ rest)) (sym none) all
    by_part own (inr (part, one, is)) all =
        let first : from ≤ op.start = All-head (λ (o : Operation). from ≤ o.start) op ops late in
        subst (λ l. All (λ (o : Operation). from ≤ o.start) (l ++ rest)) (sym one) (All-cons (λ (o : Operation). from ≤ o.start) part rest (omega (arith, first, is.start)) all)

operation_part : (op part : Operation) → IsPartOf op part → IsOperation op → IsOperation part
operation_part op part is op_is = record {
  lawful = subst IsLawful (sym is.access) op_is.lawful;
  within = subst (λ (a : Access). a.addr + a.len ≤ 2 ^ 52) (sym is.access) op_is.within;
  lasting = let long = op_is.lasting in omega (arith, is.start, is.end, long);
}

-- and is a trace
pub judged_traced : (events : List Event) (ops : List Operation) → IsTrace ops → IsTrace (flat_map (judged_part events) ops)
unfolding IsTrace
judged_traced events [] is = tt
judged_traced events (op ∷ ops) is =
    by_part (judged_part events op) (is_part (unknown_at events (granule_of op) op.start) op) (part_late events op.start ops is.1) (judged_traced events ops is.2)
  where
    rest : List Operation
    rest = flat_map (judged_part events) ops

    by_part : (own : List Operation) → IsPart op own → All (λ later. op.start ≤ later.start) rest → IsTrace rest → IsTrace (own ++ rest)
    by_part own (inl none) late traced = subst (λ l. IsTrace (l ++ rest)) (sym none) traced
    by_part own (inr (part, one, part_is)) late traced =
        subst (λ l. IsTrace (l ++ rest)) (sym one)
        (operation_part op part part_is is.0, subst (λ n. All (λ (later : Operation). n ≤ later.start) rest) (sym part_is.start) late, traced)

-- a list that is the first elements of others, where each has one at most
abbrev first_of : (Operation → List Operation) → Operation → Operation
first_of f op = get_or (f op) 0 op

abbrev has_first : (Operation → List Operation) → Operation → Bool
has_first f op = nat_lt 0 (length (f op))

flat_firsts : (f : Operation → List Operation) → ((op : Operation) → length (f op) ≤ 1) → (ops : List Operation) → flat_map f ops ≡ map (first_of f) (filter (has_first f) ops)
flat_firsts f short [] = refl
flat_firsts f short (op ∷ ops) = by_list (f op) refl (short op) (flat_firsts f short ops)
  where
    by_list : (l : List Operation) → f op ≡ l → length l ≤ 1 → flat_map f ops ≡ map (first_of f) (filter (has_first f) ops)
        → l ++ flat_map f ops ≡ map (first_of f) (cond (nat_lt 0 (length l)) (op ∷ filter (has_first f) ops) (filter (has_first f) ops))
    by_list [] is few rest = rest
    by_list (x ∷ []) is few rest = ap₂ (λ (y : Operation) l. y ∷ l) (sym (ap (λ l. get_or l 0 op) is)) rest
    by_list (x ∷ y ∷ l) is few rest = absurd (omega (arith, few))

part_short : (u : Option ℕ) (op : Operation) → length (until u (op ∷ [])) ≤ 1
part_short u op = elim (is_part u op) [
  | inl none ↦ omega (arith, ap length none)
  | inr (part, one, is) ↦ omega (arith, ap length one)
]

-- what is judged of operations told in another order
pub judged_permutation : (events : List Event) (xs ys : List Operation) → IsPermutation xs ys → IsPermutation (flat_map (judged_part events) xs) (flat_map (judged_part events) ys)
judged_permutation events xs ys moved =
    subst (λ l. IsPermutation l (flat_map f ys)) (sym (flat_firsts f short xs))
    (subst (IsPermutation (map (first_of f) (filter (has_first f) xs))) (sym (flat_firsts f short ys))
    (IsPermutation-map (first_of f) (filter (has_first f) xs) (filter (has_first f) ys) (IsPermutation-filter (has_first f) xs ys moved)))
  where
    f : Operation → List Operation
    f = judged_part events

    short : (op : Operation) → length (f op) ≤ 1
    short op = part_short (unknown_at events (granule_of op) op.start) op
