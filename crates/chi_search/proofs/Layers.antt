-- the sets of states of a search by layers, and the words that can follow
use Rattle.std.proofs.Common.{◌≡◌, ℕ, ◌+◌, ◌-◌, ◌^◌, ◌<◌, ◌≤◌, ◌⊎◌, ◌↔◌, All, List, [], ◌∷◌, ◌++◌, append-nil, false, true≢false, is_some, length-append, length, None, Option, Some, refl, sym, ap, subst, ◌∙◌, arith, inl, inr, below_more}
use Rattle.std.proofs.lemmas.Bool.{cases_lt}
use Rattle.std.specs.Prelude.{slice_get}
use Rattle.std.proofs.lemmas.List.Elements.{All-head, Contains-get_or}
use Rattle.std.proofs.lemmas.Option.{get_or_from_slice_get, slice_get_within}
use Rattle.chi_trace.specs.declared.operation.Operation.{Operation}
use Rattle.chi_trace.specs.Explains.{at, nothing}
use Rattle.chi_trace.specs.Granules.{Fits}
use Rattle.chi_trace.proofs.Segments.{at_later}
use Rattle.chi_search.specs.declared.states.States.{States}
use Rattle.chi_search.specs.Equal.{HasEqualBefore}
use Rattle.chi_search.specs.Layers.{AreReady, AreWaiting, CanStart, EitherEnds, MayFollow, SomeEnds, Waits}
use Rattle.chi_search.specs.Moves.{ByTaking, CanCome, Drops, Ends, IsIdle, Takes}
use Rattle.chi_search.specs.Paths.{IsDead}
use Rattle.chi_search.specs.Positions.{IsReady, Position}
use Rattle.chi_search.specs.Searchable.{AreSorted}
use Rattle.chi_search.specs.StateSets.{Has, positions}
use Rattle.chi_search.proofs.ByEqual.{by_equal}
use Rattle.chi_search.proofs.Moves.{ByDropping, from_dropped, from_idle, from_taken, goes_on}
use Rattle.chi_search.proofs.Settling.{left_is}
use Rattle.chi_search.proofs.Following.{at_before}
use Rattle.chi_search.proofs.Paths.{AreLate, not_late}
use Rattle.chi_search.proofs.Elements.{some_added}
use Rattle.chi_search.proofs.Sets.{one_more, swapped}

-- the set has one state more
abbrev pub IsAdded : States → States → Position → Type 0
IsAdded new old s = (p : Position) → Has new p ↔ (Has old p ⊎ (p ≡ s))

pub ends_more : (ops : List Operation) (new old : States) (s : Position) → IsAdded new old s → (v : ℕ)
    → SomeEnds ops new v ↔ (SomeEnds ops old v ⊎ Ends ops (Some v) s)
ends_more ops new old s added v = some_added (Ends ops (Some v)) (Has new) (Has old) s added

pub ready_more : (ops : List Operation) (new old : States) (s : Position) → IsAdded new old s → IsReady (length ops) s → AreReady ops old → AreReady ops new
ready_more ops new old s added ready all p has = elim ((added p).0 has) [
  | inl before ↦ all p before
  | inr same ↦ subst (IsReady (length ops)) (sym same) ready
]

-- The set has only states more that p can come to, and one for each order that begins by an operation before the place.
pub record Grown (ops : List Operation) (old now : States) (p : Position) (k : ℕ) : Type 0 where
  pub forth : (v : ℕ) → SomeEnds ops now v → SomeEnds ops old v ⊎ Ends ops (Some v) p
  pub back : (v : ℕ) → SomeEnds ops old v → SomeEnds ops now v
  pub tried : (v i : ℕ) → i < k → ByTaking ops (Some v) p i → SomeEnds ops now v

-- none is before the first
pub not_grown : (ops : List Operation) (old : States) (p : Position) → Grown ops old old p p.first
not_grown ops old p = record {
  forth = λ v some. inl some;
  back = λ v some. some;
  tried = λ v i before taking. none v i before taking;
}
  where
    none : (v i : ℕ) → i < p.first → ByTaking ops (Some v) p i → SomeEnds ops old v
    none v i before taking = let is = left_is (length ops) p i taken.0 in absurd (omega (arith, before, is.1))
      where
        taken : CanCome ops p i
        taken = taking.0

-- one state more that p can come to
pub grown_by : (ops : List Operation) (old now new : States) (p q : Position) (k : ℕ) → Grown ops old now p k → IsAdded new now q
    → ((v : ℕ) → Ends ops (Some v) q → Ends ops (Some v) p) → Grown ops old new p k
grown_by ops old now new p q k grown added leads = record {
  forth = forth;
  back = λ v some. still v (grown.back v some);
  tried = λ v i before taking. still v (grown.tried v i before taking);
}
  where
    still : (v : ℕ) → SomeEnds ops now v → SomeEnds ops new v
    still v some = (ends_more ops new now q added v).1 (inl some)

    forth : (v : ℕ) → SomeEnds ops new v → SomeEnds ops old v ⊎ Ends ops (Some v) p
    forth v some = elim ((ends_more ops new now q added v).0 some) [
      | inl before ↦ grown.forth v before
      | inr here ↦ inr (leads v here)
    ]

-- no order begins by the operation at the place, since it fits nothing
pub grown_refused : (ops : List Operation) (old now : States) (p : Position) (k : ℕ) → Grown ops old now p k
    → (CanCome ops p k → Fits (at ops k) p.word → ⊥) → Grown ops old now p (k + 1)
grown_refused ops old now p k grown refused = record {
  forth = grown.forth;
  back = grown.back;
  tried = λ v. below_more (λ i. ByTaking ops (Some v) p i → SomeEnds ops now v) k (grown.tried v) (λ taking. absurd (refused taking.0 taking.1));
}

-- each order that begins by it has one that begins by an equal one before it
pub grown_equal : (ops : List Operation) (old now : States) (p : Position) (k : ℕ) → Grown ops old now p k → AreSorted ops → HasEqualBefore ops p k
    → Grown ops old now p (k + 1)
grown_equal ops old now p k grown sorted (i, before, equal, comes) = record {
  forth = grown.forth;
  back = grown.back;
  tried = λ v. below_more (λ j. ByTaking ops (Some v) p j → SomeEnds ops now v) k (grown.tried v)
      (λ taking. grown.tried v i before (by_equal ops (Some v) p k i sorted (omega (arith, before)) equal comes taking));
}

-- orders that begin by it go on from the state after it
pub takes_to : (ops : List Operation) (p q : Position) (k v : ℕ) → AreSorted ops → CanCome ops p k → Takes ops p k q → q.word < 2 ^ 64
    → Ends ops (Some v) q → Ends ops (Some v) p
takes_to ops p q k v sorted comes takes below (x, c) = (k ∷ x, from_taken ops (Some v) p q k x sorted comes takes below c)

pub grown_taken : (ops : List Operation) (old now new : States) (p q : Position) (k : ℕ) → Grown ops old now p k → IsAdded new now q
    → AreSorted ops → CanCome ops p k → Takes ops p k q → q.word < 2 ^ 64 → Grown ops old new p (k + 1)
grown_taken ops old now new p q k grown added sorted comes takes below = record {
  forth = more.forth;
  back = more.back;
  tried = λ v. below_more (λ i. ByTaking ops (Some v) p i → SomeEnds ops new v) k (more.tried v)
      (λ taking. (ends_more ops new now q added v).1 (inr (taking.3 q takes)));
}
  where
    more : Grown ops old new p k
    more = grown_by ops old now new p q k grown added (λ v. takes_to ops p q k v sorted comes takes below)

-- none by operations that start too late
pub grown_late : (ops : List Operation) (old now : States) (p : Position) (k m : ℕ) → Grown ops old now p k → AreLate ops p k m → Grown ops old now p m
grown_late ops old now p k m grown late = record {
  forth = grown.forth;
  back = grown.back;
  tried = λ v i before taking. elim (cases_lt i k) [
    | inl earlier ↦ grown.tried v i earlier taking
    | inr from ↦ absurd (not_late ops p k m i late from before taking.0)
  ];
}

-- and they start too late whatever follows
pub late_before : (ops more : List Operation) (p : Position) (k m : ℕ) → p.first < length ops → m ≤ length ops → AreLate ops p k m → AreLate (ops ++ more) p k m
late_before ops more p k m first within late i from before =
    let end : (at (ops ++ more) p.first).end ≡ (at ops p.first).end = ap (λ (o : Operation). o.end) (at_before ops more p.first first) in
    let start : (at (ops ++ more) i).start ≡ (at ops i).start = ap (λ (o : Operation). o.start) (at_before ops more i (omega arith)) in
    let apart : (at ops p.first).end < (at ops i).start = late i from before in
    omega (arith, start, end, apart)

-- the words that can follow from p are among those that can follow from the set
abbrev pub IsWhole : List Operation → States → States → Position → Type 0
IsWhole ops new old p = (v : ℕ) → SomeEnds ops new v ↔ (SomeEnds ops old v ⊎ Ends ops (Some v) p)

whole : (ops : List Operation) (old now : States) (p : Position) (k : ℕ) → Grown ops old now p k → ((v : ℕ) → Ends ops (Some v) p → SomeEnds ops now v)
    → IsWhole ops now old p
whole ops old now p k grown all v = (grown.forth v, back)
  where
    back : (SomeEnds ops old v ⊎ Ends ops (Some v) p) → SomeEnds ops now v
    back (inl before) = grown.back v before
    back (inr ends) = all v ends

-- where an operation that changes nothing can come next, each order goes on from the state after it
pub whole_idle : (ops : List Operation) (old new : States) (p q : Position) (k : ℕ) → IsAdded new old q → AreSorted ops
    → CanCome ops p k → Takes ops p k q → p.word < 2 ^ 64 → q.word < 2 ^ 64 → IsIdle (at ops k) → IsWhole ops new old p
whole_idle ops old new p q k added sorted comes takes finds leaves idle =
    whole ops old new p p.first (grown_by ops old old new p q p.first (not_grown ops old p) added (λ v. takes_to ops p q k v sorted comes takes leaves))
    (λ v ends. (ends_more ops new old q added v).1 (inr (from_idle ops (Some v) p q k finds comes idle takes ends)))

-- No operation from the place on can come next: so each order begins by one before it, or without the first.
abbrev pub IsLate : List Operation → Position → ℕ → Type 0
IsLate ops p k = (i : ℕ) → k ≤ i → i < length ops → (at ops p.first).end < (at ops i).start

pub late_on : (ops more : List Operation) (p : Position) (k : ℕ) → p.first < length ops → IsLate ops p k → All (λ op. (at ops p.first).end < op.start) more
    → IsLate (ops ++ more) p k
late_on ops more p k first late after i from within =
    let end : (at (ops ++ more) p.first).end ≡ (at ops p.first).end = ap (λ (o : Operation). o.end) (at_before ops more p.first first) in
    elim (cases_lt i (length ops)) [
      | inl below ↦
          let start : (at (ops ++ more) i).start ≡ (at ops i).start = ap (λ (o : Operation). o.start) (at_before ops more i below) in
          let apart : (at ops p.first).end < (at ops i).start = late i from below in
          omega (arith, start, end, apart)
      | inr past ↦
          let same : length ops + (i - length ops) ≡ i = omega arith in
          let start : (at (ops ++ more) i).start ≡ (at more (i - length ops)).start = ap (λ (o : Operation). o.start) (rw same at (at_later ops more (i - length ops))) in
          let apart : (at ops p.first).end < (at more (i - length ops)).start = after (i - length ops) nothing (omega (arith, past, within, length-append ops more)) in
          omega (arith, start, end, apart)
    ]

begins : (ops : List Operation) (old now : States) (p : Position) (k v : ℕ) → Grown ops old now p k → AreSorted ops → IsReady (length ops) p → p.first < length ops
    → IsLate ops p k → (ByDropping ops (Some v) p → SomeEnds ops now v) → Ends ops (Some v) p → SomeEnds ops now v
begins ops old now p k v grown sorted ready below late dropping (x, c) = elim (goes_on ops (Some v) p x sorted ready below c) [
  | inl (i, taking) ↦ elim (cases_lt i k) [
    | inl before ↦ grown.tried v i before taking
    | inr from ↦ absurd (too_late i from taking.0)
  ]
  | inr by ↦ dropping by
]
  where
    too_late : (i : ℕ) → k ≤ i → CanCome ops p i → ⊥
    too_late i from comes =
        let is = left_is (length ops) p i comes.0 in
        let later : (at ops p.first).end < (at ops i).start = late i from is.0 in
        omega (arith, later, comes.1)

-- without the first, where its reply was not seen
pub whole_dropped : (ops : List Operation) (old now new : States) (p q : Position) (k : ℕ) → Grown ops old now p k → IsAdded new now q
    → AreSorted ops → IsReady (length ops) p → p.first < length ops → IsLate ops p k → Drops ops p q → IsWhole ops new old p
whole_dropped ops old now new p q k grown added sorted ready below late drops =
    whole ops old new p k more (λ v. begins ops old new p k v more sorted ready below late (λ dropping. (ends_more ops new now q added v).1 (inr (dropping.1 q drops))))
  where
    leads : (v : ℕ) → Ends ops (Some v) q → Ends ops (Some v) p
    leads v (x, c) = (x, from_dropped ops (Some v) p q x ready below drops c)

    more : Grown ops old new p k
    more = grown_by ops old now new p q k grown added leads

-- and where it was seen
pub whole_answered : (ops : List Operation) (old now : States) (p : Position) (k : ℕ) → Grown ops old now p k
    → AreSorted ops → IsReady (length ops) p → p.first < length ops → IsLate ops p k → ((at ops p.first).reply ≡ None → ⊥) → IsWhole ops now old p
whole_answered ops old now p k grown sorted ready below late answered =
    whole ops old now p k grown (λ v. begins ops old now p k v grown sorted ready below late (λ dropping. absurd (answered dropping.0)))

-- the empty set
pub none_has : (states : States) (p : Position) → positions states ≡ [] → Has states p → ⊥
none_has states p none (x, below, same) = omega (arith, below, ap length none)

-- a state that was read is in the set
pub has_at : (states : States) (k : ℕ) (p : Position) → slice_get (positions states) k ≡ Some p → Has states p
has_at states k p is =
    subst (Has states) (get_or_from_slice_get (positions states) k p p is) (Contains-get_or (positions states) k p (slice_get_within (positions states) k p is))

pub ready_at : (ops : List Operation) (states : States) (k : ℕ) (p : Position) → slice_get (positions states) k ≡ Some p → AreReady ops states → IsReady (length ops) p
ready_at ops states k p is all = all p (has_at states k p is)

-- a set of which the length is 0
pub empty_has : (states : States) (p : Position) → length (positions states) ≡ 0 → Has states p → ⊥
empty_has states p none (x, below, same) = omega (arith, below, none)

pub empty_ends : (ops : List Operation) (states : States) (v : ℕ) → length (positions states) ≡ 0 → SomeEnds ops states v → ⊥
empty_ends ops states v none (p, has, ends) = empty_has states p none has

-- one of two sets that has one state more
abbrev pub IsOneMore : List Operation → States → States → States → States → Position → Type 0
IsOneMore ops new now old was p = (v : ℕ) → EitherEnds ops new now v ↔ (EitherEnds ops old was v ⊎ Ends ops (Some v) p)

same : {A : Type 0} → A ↔ A
same = (λ a. a, λ a. a)

pub more_states : (ops : List Operation) (new old waiting : States) (p : Position) → IsWhole ops new old p → IsOneMore ops new waiting old waiting p
more_states ops new old waiting p whole v = one_more (whole v) same same

pub more_waiting : (ops : List Operation) (states new old : States) (p : Position) → IsWhole ops new old p → IsOneMore ops states new states old p
more_waiting ops states new old p whole v = one_more (whole v) (swapped same) (swapped same)

-- No operation comes later: so no order goes on from a dead state.
nothing_more : (ops more : List Operation) → MayFollow ops None more → more ≡ []
nothing_more ops [] follow = refl
nothing_more ops (x ∷ more) follow = absurd (All-head (CanStart None) x more follow.later)

dead_now : (ops : List Operation) (v : ℕ) (p : Position) → IsDead ops None p → Ends ops (Some v) p → ⊥
dead_now ops v p dead (x, c) = dead (x, record { done = c.done; once = c.once; times = c.times; plays = c.plays; ending = tt })

pub none_is : (horizon : Option ℕ) → is_some horizon ≡ false → horizon ≡ None
none_is None is = refl
none_is (Some time) is = absurd (true≢false is)

pub dead_adds : (ops more : List Operation) (horizon : Option ℕ) (states waiting : States) (p : Position) → horizon ≡ None → IsDead ops None p → MayFollow ops horizon more
    → IsOneMore (ops ++ more) states waiting states waiting p
dead_adds ops more horizon states waiting p none dead follow v =
    (inl, λ some. elim some [ inl before ↦ before | inr ends ↦ absurd (dead_now ops v p dead (subst (λ (all : List Operation). Ends all (Some v) p) same ends)) ])
  where
    same : ops ++ more ≡ ops
    same = ap (λ (m : List Operation). ops ++ m) (nothing_more ops more (subst (λ (h : Option ℕ). MayFollow ops h more) none follow)) ∙ append-nil ops

pub waiting_more : (ops : List Operation) (horizon : Option ℕ) (new old : States) (s : Position) → IsAdded new old s → IsReady (length ops) s
    → Waits ops horizon s.first → AreWaiting ops horizon old → AreWaiting ops horizon new
waiting_more ops horizon new old s added ready waits all p has = elim ((added p).0 has) [
  | inl before ↦ all p before
  | inr is ↦ subst (λ (q : Position). IsReady (length ops) q × Waits ops horizon q.first) (sym is) (ready, waits)
]

-- where none waits yet, and where no other state is left
pub first_either : (ops : List Operation) (from waiting : States) (v : ℕ) → length (positions waiting) ≡ 0 → EitherEnds ops from waiting v ↔ SomeEnds ops from v
first_either ops from waiting v none =
    (λ either. elim either [ inl some ↦ some | inr some ↦ absurd (empty_ends ops waiting v none some) ], inl)

pub last_either : (ops : List Operation) (from layer waiting : States) (v : ℕ) → length (positions layer) ≡ 0 → EitherEnds ops layer waiting v ↔ SomeEnds ops from v
    → SomeEnds ops waiting v ↔ SomeEnds ops from v
last_either ops from layer waiting v none so = (
  λ some. so.0 (inr some),
  λ some. elim (so.1 some) [ inl left ↦ absurd (empty_ends ops layer v none left) | inr waits ↦ waits ],
)
