-- operations that are told one after the other, and a search that follows them
use Rattle.std.proofs.Common.{◌≡◌, ℕ, ◌+◌, ◌-◌, ◌^◌, ◌<◌, ◌≤◌, ◌↔◌, List, [], ◌∷◌, ◌++◌, All, length, length-append, append-nil, Some, None, sym, ap, subst, arith, inl, inr}
use Rattle.std.specs.List.{Contains}
use Rattle.std.proofs.lemmas.Bool.{cases_lt}
use Rattle.std.proofs.lemmas.List.{append_assoc}
use Rattle.std.proofs.lemmas.List.Elements.{All-append, All-cons, All-nil, All-push, All-weaker}
use Rattle.chi_trace.specs.declared.operation.Operation.{Operation}
use Rattle.chi_trace.specs.Explains.{at, nothing}
use Rattle.chi_trace.proofs.Segments.{at_later}
use Rattle.chi_search.specs.declared.states.States.{States}
use Rattle.chi_search.specs.Frontiers.{AreEnds, CanBeTold, Follows, FrontierValue, GoesOn, IsFrontier, MayBeTold}
use Rattle.chi_search.specs.Layers.{CanStart, MayFollow, SomeLeads}
use Rattle.chi_search.specs.Moves.{Ends}
use Rattle.chi_search.specs.Positions.{Position}
use Rattle.chi_search.specs.Searchable.{AreByEnd, AreSorted, AreWithin}
use Rattle.chi_search.specs.StateSets.{positions}
use Rattle.chi_search.proofs.FirstAndLast.{AreFirst, first_leads, first_orders, first_ready}
use Rattle.chi_search.proofs.Following.{at_before, ready_on}

-- operations in the order of their ends, and then others that end no earlier
by_end_after : (a b : List Operation) (t : ℕ) → AreByEnd a → AreByEnd b → All (λ op. op.end ≤ t) a → All (λ op. t ≤ op.end) b → AreByEnd (a ++ b)
by_end_after a b t first then before after i j from below = elim (cases_lt i (length a)) [
  | inl early ↦ elim (cases_lt j (length a)) [
    | inl both ↦
        let is_i : (at (a ++ b) i).end ≡ (at a i).end = ap (λ (o : Operation). o.end) (at_before a b i early) in
        let is_j : (at (a ++ b) j).end ≡ (at a j).end = ap (λ (o : Operation). o.end) (at_before a b j both) in
        let so : (at a i).end ≤ (at a j).end = first i j from both in
        omega (arith, is_i, is_j, so)
    | inr late ↦
        let is_i : (at (a ++ b) i).end ≡ (at a i).end = ap (λ (o : Operation). o.end) (at_before a b i early) in
        let ends : (at a i).end ≤ t = before i nothing early in
        let more : t ≤ (at (a ++ b) j).end = there j late below in
        omega (arith, is_i, ends, more)
  ]
  | inr past ↦
      let same_i : length a + (i - length a) ≡ i = omega arith in
      let same_j : length a + (j - length a) ≡ j = omega arith in
      let is_i : (at (a ++ b) i).end ≡ (at b (i - length a)).end = ap (λ (o : Operation). o.end) (rw same_i at (at_later a b (i - length a))) in
      let is_j : (at (a ++ b) j).end ≡ (at b (j - length a)).end = ap (λ (o : Operation). o.end) (rw same_j at (at_later a b (j - length a))) in
      let so : (at b (i - length a)).end ≤ (at b (j - length a)).end = then (i - length a) (j - length a) (omega (arith, from, past)) (omega (arith, below, past, from, length-append a b)) in
      omega (arith, is_i, is_j, so)
]
  where
    there : (j : ℕ) → length a ≤ j → j < length (a ++ b) → t ≤ (at (a ++ b) j).end
    there j late below =
        let same : length a + (j - length a) ≡ j = omega arith in
        let is : (at (a ++ b) j).end ≡ (at b (j - length a)).end = ap (λ (o : Operation). o.end) (rw same at (at_later a b (j - length a))) in
        let ends : t ≤ (at b (j - length a)).end = after (j - length a) nothing (omega (arith, late, below, length-append a b)) in
        omega (arith, is, ends)

pub sorted_after : (a b : List Operation) (t : ℕ) → AreSorted a → AreSorted b → All (λ op. op.end ≤ t) a → All (λ op. t ≤ op.end) b → AreSorted (a ++ b)
sorted_after a b t first then before after =
    (by_end_after a b t first.0 then.0 before after, All-append (λ (op : Operation). op.start ≤ op.end) a b first.1 then.1)

-- one operation is sorted
pub sorted_one : (op : Operation) → op.start ≤ op.end → AreSorted (op ∷ [])
sorted_one op lasting = (by_end, All-cons (λ (o : Operation). o.start ≤ o.end) op [] lasting (All-nil (λ (o : Operation). o.start ≤ o.end)))
  where
    by_end : AreByEnd (op ∷ [])
    by_end i j from below = let first : i ≡ 0 = omega (arith, from, below) in let last : j ≡ 0 = omega (arith, from, below) in rw first (rw last (omega arith))

-- the search once one operation more was told
abbrev pub with_one : FrontierValue → Operation → FrontierValue
with_one f op = record f { operations = f.operations ++ op ∷ []; latest = op.end }

pub frontier_one : (f : FrontierValue) (op : Operation) → IsFrontier f → CanBeTold f op → op.access.addr + op.access.len ≤ 2 ^ 52 → IsFrontier (with_one f op)
frontier_one f op is can lies = record {
  sorted = sorted_after f.operations (op ∷ []) f.latest is.sorted (sorted_one op can.lasting) is.ended
      (All-cons (λ (o : Operation). f.latest ≤ o.end) op [] can.ends (All-nil (λ (o : Operation). f.latest ≤ o.end)));
  within = within;
  ended = All-push (λ (o : Operation). o.end ≤ op.end) f.operations op
      (All-weaker (λ (o : Operation). o.end ≤ f.latest) (λ (o : Operation). o.end ≤ op.end) (λ o ends. omega (arith, ends, can.ends)) f.operations is.ended) (omega arith);
  ready = λ p has. ready_on f.operations (op ∷ []) p (is.ready p has);
}
  where
    within : AreWithin (f.operations ++ op ∷ [])
    within i below = elim (cases_lt i (length f.operations)) [
      | inl early ↦ subst (λ (o : Operation). o.access.addr + o.access.len ≤ 2 ^ 52) (sym (at_before f.operations (op ∷ []) i early)) (is.within i early)
      | inr past ↦
          let last : length f.operations + 0 ≡ i = omega (arith, past, below, length-append f.operations (op ∷ [])) in
          subst (λ (o : Operation). o.access.addr + o.access.len ≤ 2 ^ 52) (sym (rw last at (at_later f.operations (op ∷ []) 0))) lies
    ]

-- what may be told after it
pub told_one : (f : FrontierValue) (op : Operation) (more : List Operation) → CanBeTold f op → MayBeTold (with_one f op) more → MayBeTold f (op ∷ more)
told_one f op more can may = record {
  sorted = sorted_after (op ∷ []) more op.end (sorted_one op can.lasting) may.sorted
      (All-cons (λ (o : Operation). o.end ≤ op.end) op [] (omega arith) (All-nil (λ (o : Operation). o.end ≤ op.end)))
      (All-weaker (CanBeTold (with_one f op)) (λ (o : Operation). op.end ≤ o.end) (λ o c. c.ends) more may.each);
  each = All-cons (CanBeTold f) op more can (All-weaker (CanBeTold (with_one f op)) (CanBeTold f) earlier more may.each);
}
  where
    earlier : (o : Operation) → CanBeTold (with_one f op) o → CanBeTold f o
    earlier o c = record { lasting = c.lasting; starts = c.starts; ends = omega (arith, can.ends, c.ends) }

pub follows_one : (words : List ℕ) (told : List Operation) (f : FrontierValue) (op : Operation) → CanBeTold f op → Follows words told f
    → Follows words (told ++ op ∷ []) (with_one f op)
follows_one words told f op can follows = record {
  leads = λ more may v.
      subst (λ (all : List Operation). SomeLeads all words v ↔ GoesOn (with_one f op) more v) (sym (append_assoc told (op ∷ []) more))
      (subst (λ (all : List Operation). SomeLeads (told ++ op ∷ more) words v ↔ ((p : Position) × Contains f.positions p × Ends all (Some v) p))
      (sym (append_assoc f.operations (op ∷ []) more))
      (follows.leads (op ∷ more) (told_one f op more can may) v));
  orders = λ more may.
      subst (λ (all : List Operation). AreEnds all words f.positions ((f.operations ++ op ∷ []) ++ more)) (sym (append_assoc told (op ∷ []) more))
      (subst (AreEnds (told ++ op ∷ more) words f.positions) (sym (append_assoc f.operations (op ∷ []) more)) (follows.orders (op ∷ more) (told_one f op more can may)));
}

-- before any operation is told
pub follows_none : (words : List ℕ) (layer : States) (f : FrontierValue) → AreFirst layer words → f.positions ≡ positions layer → f.operations ≡ [] → Follows words [] f
follows_none words layer f first same none = record {
  leads = λ more may v.
      let here = first_leads more words layer first v in
      subst (λ (ps : List Position). SomeLeads more words v ↔ ((p : Position) × Contains ps p × Ends (f.operations ++ more) (Some v) p)) (sym same)
      (subst (λ (ops : List Operation). SomeLeads more words v ↔ ((p : Position) × Contains (positions layer) p × Ends (ops ++ more) (Some v) p)) (sym none) (here.1, here.0));
  orders = λ more may.
      subst (λ (ps : List Position). AreEnds more words ps (f.operations ++ more)) (sym same)
      (subst (λ (ops : List Operation). AreEnds more words (positions layer) (ops ++ more)) (sym none) (first_orders more words layer first));
}

-- what may be told next may be told where the horizon is earlier, and the latest end
pub may_earlier : (f g : FrontierValue) (more : List Operation) → f.horizon ≤ g.horizon → f.latest ≤ g.latest → MayBeTold g more → MayBeTold f more
may_earlier f g more starts ends may = record {
  sorted = may.sorted;
  each = All-weaker (CanBeTold g) (CanBeTold f) (λ o c. record { lasting = c.lasting; starts = omega (arith, starts, c.starts); ends = omega (arith, ends, c.ends) }) more may.each;
}

-- what may be told next may follow the operations that it knows
pub may_follow : (f : FrontierValue) (horizon : ℕ) (more : List Operation) → IsFrontier f → MayBeTold (record f { horizon = horizon }) more → MayFollow f.operations (Some horizon) more
may_follow f horizon more is may = record {
  sorted = sorted_after f.operations more f.latest is.sorted may.sorted is.ended
      (All-weaker (CanBeTold (record f { horizon = horizon })) (λ (o : Operation). f.latest ≤ o.end) (λ o c. c.ends) more may.each);
  later = All-weaker (CanBeTold (record f { horizon = horizon })) (CanStart (Some horizon)) (λ o c. c.starts) more may.each;
}

-- before any operation is told
pub frontier_none : (words : List ℕ) (layer : States) → AreFirst layer words
    → IsFrontier (record { positions = positions layer; operations = []; horizon = 0; latest = 0 })
frontier_none words layer first = record {
  sorted = (λ i j from below. absurd (omega (arith, below)), All-nil (λ (op : Operation). op.start ≤ op.end));
  within = λ i below. absurd (omega (arith, below));
  ended = All-nil (λ (op : Operation). op.end ≤ 0);
  ready = first_ready [] words layer first;
}

-- where nothing more is told
pub none_told : (f : FrontierValue) → MayBeTold f []
none_told f = record {
  sorted = (λ i j from below. absurd (omega (arith, below)), All-nil (λ (op : Operation). op.start ≤ op.end));
  each = All-nil (CanBeTold f);
}

pub none_follow : (ops : List Operation) → AreSorted ops → MayFollow ops None []
none_follow ops sorted = record {
  sorted = subst AreSorted (sym (append-nil ops)) sorted;
  later = All-nil (CanStart None);
}
