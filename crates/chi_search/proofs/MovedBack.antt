-- a search told without the first operations, which each of its positions has passed
use Rattle.std.proofs.Common.{◌≡◌, ℕ, ◌+◌, ◌-◌, ◌^◌, ◌≤◌, ◌↔◌, List, [], ◌++◌, drop, length, length-drop, get_or-drop, append-nil, map, Some, None, refl, sym, ap, subst, ◌∙◌, arith, inl, inr}
use Rattle.std.specs.List.{Contains}
use Rattle.std.proofs.lemmas.List.Elements.{All-drop}
use Rattle.chi_trace.specs.declared.operation.Operation.{Operation}
use Rattle.chi_trace.specs.Explains.{at, nothing}
use Rattle.chi_trace.specs.Granules.{Finishes}
use Rattle.chi_search.specs.declared.states.States.{States}
use Rattle.chi_search.specs.Frontiers.{AreEnds, EndsWith, Follows, FrontierValue, GoesOn, IsFrontier, MayBeTold}
use Rattle.chi_search.specs.Layers.{MayFollow, SomeEnds, SomeLeads, Waits}
use Rattle.chi_search.specs.Moves.{Ends}
use Rattle.chi_search.specs.Paths.{AreReached}
use Rattle.chi_search.specs.Positions.{IsReady, Position, back_by, is_left}
use Rattle.chi_search.specs.Searchable.{AreByEnd, AreSorted}
use Rattle.chi_search.specs.StateSets.{Has, positions}
use Rattle.chi_search.proofs.Dropped.{drop_settled, left_there, same_undropped, undropped, unsettled_there}
use Rattle.chi_search.proofs.FirstAndLast.{chained}
use Rattle.chi_search.proofs.Reached.{ends_reached}
use Rattle.chi_search.proofs.Telling.{may_earlier, may_follow, none_follow}

at_drop : (k : ℕ) (ops : List Operation) (i : ℕ) → at (drop k ops) i ≡ at ops (k + i)
at_drop k ops i = get_or-drop k ops i nothing

ready_back : (n k : ℕ) (p : Position) → k ≤ p.first → k ≤ n → IsReady n p → IsReady (n - k) (back_by k p)
ready_back n k p past within ready = record {
  within = omega (arith, past, within, ready.within);
  left = λ below.
      let same : k + (p.first - k) ≡ p.first = omega (arith, past) in
      rw same at (left_there n (n - k) k p (p.first - k) past (omega (arith, within))) ∙ ready.left (omega (arith, below, past, within));
  later = λ j from. unsettled_there k p j past ∙ ready.later (k + j) (omega (arith, from, within));
}

abbrev pub AreBack : ℕ → States → States → Type 0
AreBack k back last = (p : Position) → Has back p ↔ ((q : Position) × Has last q × (p ≡ back_by k q))

pub goes_back : (ops more : List Operation) (k v : ℕ) (last back : States) → k ≤ length ops → ((p : Position) → Has last p → k ≤ p.first) → AreBack k back last
    → SomeEnds (ops ++ more) last v ↔ SomeEnds (drop k ops ++ more) back v
goes_back ops more k v last back within past are = (forth, there)
  where
    forth : SomeEnds (ops ++ more) last v → SomeEnds (drop k ops ++ more) back v
    forth (q, has, ends) = (back_by k q, (are (back_by k q)).1 (q, has, refl), (drop_settled ops more k v q (past q has) within).0 ends)

    there : SomeEnds (drop k ops ++ more) back v → SomeEnds (ops ++ more) last v
    there (p, has, ends) =
        let of = (are p).0 has in
        (of.0, of.1, (drop_settled ops more k v of.0 (past of.0 of.1) within).1 (subst (Ends (drop k ops ++ more) (Some v)) of.2 ends))

abbrev pub told_back : FrontierValue → ℕ → ℕ → States → FrontierValue
told_back f horizon k back = record f { positions = positions back; operations = drop k f.operations; horizon = horizon }

pub frontier_back : (f : FrontierValue) (horizon k : ℕ) (last back : States) → IsFrontier f → k ≤ length f.operations → ((p : Position) → Has last p → k ≤ p.first)
    → ((p : Position) → Has last p → IsReady (length f.operations) p) → AreBack k back last → IsFrontier (told_back f horizon k back)
frontier_back f horizon k last back is within past all are = record {
  sorted = (by_end, All-drop (λ (o : Operation). o.start ≤ o.end) k f.operations is.sorted.1);
  within = λ i below. subst (λ (o : Operation). o.access.addr + o.access.len ≤ 2 ^ 52) (sym (at_drop k f.operations i)) (is.within (k + i) (omega (arith, below, within, length-drop k f.operations)));
  ended = All-drop (λ (o : Operation). o.end ≤ f.latest) k f.operations is.ended;
  ready = ready;
}
  where
    by_end : AreByEnd (drop k f.operations)
    by_end i j from below =
        let is_i : (at (drop k f.operations) i).end ≡ (at f.operations (k + i)).end = ap (λ (o : Operation). o.end) (at_drop k f.operations i) in
        let is_j : (at (drop k f.operations) j).end ≡ (at f.operations (k + j)).end = ap (λ (o : Operation). o.end) (at_drop k f.operations j) in
        let so : (at f.operations (k + i)).end ≤ (at f.operations (k + j)).end = is.sorted.0 (k + i) (k + j) (omega (arith, from)) (omega (arith, below, within, length-drop k f.operations)) in
        omega (arith, is_i, is_j, so)

    ready : (p : Position) → Has back p → IsReady (length (drop k f.operations)) p
    ready p has =
        let of = (are p).0 has in
        subst (IsReady (length (drop k f.operations))) (sym of.2)
        (subst (λ n. IsReady n (back_by k of.0)) (sym (length-drop k f.operations)) (ready_back (length f.operations) k of.0 (past of.0 of.1) within (all of.0 of.1)))

-- what waits does so without them
pub waits_back : (ops : List Operation) (horizon k : ℕ) (last back : States) → k ≤ length ops → ((p : Position) → Has last p → k ≤ p.first)
    → ((p : Position) → Has last p → Waits ops (Some horizon) p.first) → AreBack k back last → (p : Position) → Has back p → Waits (drop k ops) (Some horizon) p.first
waits_back ops horizon k last back within past waiting are p has =
    let of = (are p).0 has in
    let first : p.first ≡ of.0.first - k = ap (λ (q : Position). q.first) of.2 in
    subst (Waits (drop k ops) (Some horizon)) (sym first) (elim (waiting of.0 of.1) [
      | inl ended ↦ inl (omega (arith, ended, length-drop k ops))
      | inr late ↦
          let same : k + (of.0.first - k) ≡ of.0.first = omega (arith, past of.0 of.1) in
          let there : (at (drop k ops) (of.0.first - k)).end ≡ (at ops of.0.first).end = ap (λ (o : Operation). o.end) (at_drop k ops (of.0.first - k) ∙ ap (at ops) same) in
          inr (omega (arith, late, there))
    ])

-- an order that goes on without them is of the same operations as one with them
ends_back : (told : List Operation) (words : List ℕ) (ops more : List Operation) (k : ℕ) (last back : States) → k ≤ length ops → ((p : Position) → Has last p → k ≤ p.first)
    → AreBack k back last → AreEnds told words (positions last) (ops ++ more) → AreEnds told words (positions back) (drop k ops ++ more)
ends_back told words ops more k last back within past are ends p has x c =
    let of = (are p).0 has in
    subst (EndsWith told words) (same_undropped ops more k x within)
    (ends of.0 of.1 (map (λ j. k + j) x) (undropped ops more k None of.0 x (past of.0 of.1) within
    (subst (λ (q : Position). Finishes (drop k ops ++ more) (is_left (length (drop k ops ++ more)) q) q.word None x) of.2 c)))

-- it follows the same operations
pub follows_back : (words : List ℕ) (told : List Operation) (f : FrontierValue) (horizon k : ℕ) (states from last back : States) → IsFrontier f → f.positions ≡ positions states
    → f.horizon ≤ horizon → k ≤ length f.operations → ((p : Position) → Has last p → k ≤ p.first) → AreBack 0 from states → AreBack k back last
    → ((more : List Operation) → MayFollow f.operations (Some horizon) more → (v : ℕ) → SomeEnds (f.operations ++ more) last v ↔ SomeEnds (f.operations ++ more) from v)
    → AreReached f.operations from last → Follows words told f → Follows words told (told_back f horizon k back)
follows_back words told f horizon k states from last back is same later within past copied are goes reached follows = record { leads = leads; orders = orders }
  where
    ops : List Operation
    ops = f.operations

    next : FrontierValue
    next = told_back f horizon k back

    before : (more : List Operation) → MayBeTold next more → MayBeTold f more
    before more may = may_earlier f next more later (omega arith) may

    follow : (more : List Operation) → MayBeTold next more → MayFollow ops (Some horizon) more
    follow more may = may_follow f horizon more is (may_earlier (record f { horizon = horizon }) next more (omega arith) (omega arith) may)

    leads : (more : List Operation) → MayBeTold next more → (v : ℕ) → SomeLeads (told ++ more) words v ↔ GoesOn next more v
    leads more may v =
        let here : SomeLeads (told ++ more) words v ↔ SomeEnds (ops ++ more) states v =
        subst (λ (ps : List Position). SomeLeads (told ++ more) words v ↔ ((p : Position) × Contains ps p × Ends (ops ++ more) (Some v) p)) same (follows.leads more (before more may) v) in
        let first : SomeEnds (ops ++ more) states v ↔ SomeEnds (ops ++ more) from v = goes_back ops more 0 v states from (omega arith) (λ p has. omega arith) copied in
        let on : SomeEnds (ops ++ more) last v ↔ SomeEnds (ops ++ more) from v = goes more (follow more may) v in
        chained (SomeLeads (told ++ more) words v) (SomeEnds (ops ++ more) states v) (SomeEnds (drop k ops ++ more) back v) here
        (chained (SomeEnds (ops ++ more) states v) (SomeEnds (ops ++ more) from v) (SomeEnds (drop k ops ++ more) back v) first
        (chained (SomeEnds (ops ++ more) from v) (SomeEnds (ops ++ more) last v) (SomeEnds (drop k ops ++ more) back v) (on.1, on.0) (goes_back ops more k v last back within past are)))

    orders : (more : List Operation) → MayBeTold next more → AreEnds (told ++ more) words next.positions (next.operations ++ more)
    orders more may =
        ends_back (told ++ more) words ops more k last back within past are
        (ends_reached (told ++ more) words ops more from last (follow more may).sorted reached
        (ends_back (told ++ more) words ops more 0 states from (omega arith) (λ p has. omega arith) copied
        (subst (λ (ps : List Position). AreEnds (told ++ more) words ps (ops ++ more)) same (follows.orders more (before more may)))))

-- a copy of the states is as ready as they are
pub ready_copied : (ops : List Operation) (states from : States) → AreBack 0 from states → ((p : Position) → Has states p → IsReady (length ops) p)
    → (p : Position) → Has from p → IsReady (length ops) p
ready_copied ops states from copied all p has =
    let of = (copied p).0 has in
    let whole : length ops - 0 ≡ length ops = omega arith in
    subst (IsReady (length ops)) (sym of.2) (subst (λ n. IsReady n (back_by 0 of.0)) whole (ready_back (length ops) 0 of.0 (omega arith) (omega arith) (all of.0 of.1)))

-- the words of the last states are those to which the states themselves lead
pub ends_all : (ops : List Operation) (states from last : States) → AreSorted ops → AreBack 0 from states
    → ((more : List Operation) → MayFollow ops None more → (v : ℕ) → SomeEnds (ops ++ more) last v ↔ SomeEnds (ops ++ more) from v)
    → (v : ℕ) → SomeEnds ops last v ↔ SomeEnds ops states v
ends_all ops states from last sorted copied goes v =
    let first : SomeEnds ops states v ↔ SomeEnds ops from v =
    subst (λ (all : List Operation). SomeEnds all states v ↔ SomeEnds all from v) (append-nil ops) (goes_back ops [] 0 v states from (omega arith) (λ p has. omega arith) copied) in
    let on : SomeEnds ops last v ↔ SomeEnds ops from v =
    subst (λ (all : List Operation). SomeEnds all last v ↔ SomeEnds all from v) (append-nil ops) (goes [] (none_follow ops sorted) v) in
    chained (SomeEnds ops last v) (SomeEnds ops from v) (SomeEnds ops states v) on (first.1, first.0)

-- a copy of the states is a search that may go on
pub frontier_copied : (f : FrontierValue) (states back : States) → f.positions ≡ positions states → AreBack 0 back states → IsFrontier f → IsFrontier (record f { positions = positions back })
frontier_copied f states back same copied is = record {
  sorted = is.sorted;
  within = is.within;
  ended = is.ended;
  ready = λ p has. ready_copied f.operations states back copied (λ q there. is.ready q (subst (λ (ps : List Position). Contains ps q) (sym same) there)) p has;
}

-- and follows the same operations
pub follows_copied : (words : List ℕ) (told : List Operation) (f : FrontierValue) (states back : States) → f.positions ≡ positions states → AreBack 0 back states
    → Follows words told f → Follows words told (record f { positions = positions back })
follows_copied words told f states back same copied follows = record { leads = leads; orders = orders }
  where
    ops : List Operation
    ops = f.operations

    copy : FrontierValue
    copy = record f { positions = positions back }

    before : (more : List Operation) → MayBeTold copy more → MayBeTold f more
    before more may = may_earlier f copy more (omega arith) (omega arith) may

    leads : (more : List Operation) → MayBeTold copy more → (v : ℕ) → SomeLeads (told ++ more) words v ↔ GoesOn copy more v
    leads more may v =
        let here : SomeLeads (told ++ more) words v ↔ SomeEnds (ops ++ more) states v =
        subst (λ (ps : List Position). SomeLeads (told ++ more) words v ↔ ((p : Position) × Contains ps p × Ends (ops ++ more) (Some v) p)) same (follows.leads more (before more may) v) in
        chained (SomeLeads (told ++ more) words v) (SomeEnds (ops ++ more) states v) (SomeEnds (ops ++ more) back v) here
        (goes_back ops more 0 v states back (omega arith) (λ p has. omega arith) copied)

    orders : (more : List Operation) → MayBeTold copy more → AreEnds (told ++ more) words copy.positions (ops ++ more)
    orders more may =
        ends_back (told ++ more) words ops more 0 states back (omega arith) (λ p has. omega arith) copied
        (subst (λ (ps : List Position). AreEnds (told ++ more) words ps (ops ++ more)) same (follows.orders more (before more may)))
