-- the moves of a search in the bits of a mask, and the orders that go on from a position
use Rattle.std.proofs.Common.{◌≡◌, ℕ, suc, zero, ◌<◌, ◌≤◌, ◌⊎◌, Bool, true, false, not, true≢false, List, [], ◌∷◌, length, Option, IfSome, bit_and, refl, sym, subst, arith, inl, inr}
use Rattle.std.proofs.lemmas.Bool.{cases_lt}
use Rattle.std.proofs.lemmas.Nat.Bits.{bit_at-lt, bit_at_and}
use Rattle.chi_trace.specs.declared.operation.Operation.{Operation}
use Rattle.chi_trace.specs.Explains.{IsInTime, at, times_in}
use Rattle.chi_search.specs.declared.path.Step.{Step}
use Rattle.chi_search.specs.Effects.{Agree}
use Rattle.chi_search.specs.Moves.{CanCome}
use Rattle.chi_search.specs.Positions.{IsReady, Position, Settles, is_left, position_of}
use Rattle.chi_search.specs.Searchable.{AreSorted}
use Rattle.chi_search.specs.Within.{AreTriedWithin, ByDroppingWithin, ByTakingWithin, EndsWithin, FinishesWithin, GoesOnBy, GoesOnWithin, IsDeadWithin, KeepsWithin, PlayWithin}
use Rattle.chi_search.proofs.Covers.{Covers, covers_first, covers_rest, covers_settled, parts, without}
use Rattle.chi_search.proofs.Moves.{begins_early}
use Rattle.chi_search.proofs.Orders.{absent}
use Rattle.chi_search.proofs.Paths.{AreLate, not_late}
use Rattle.chi_search.proofs.Settling.{left_is, left_settles}
use Rattle.chi_search.proofs.Within.{finishes_without, same_word, turned}

-- how often operations stand in an order that finishes
covers_of : (mask : ℕ) (ops : List Operation) (l : ℕ → Bool) (v : ℕ) (final_word : Option ℕ) (x : List ℕ) → FinishesWithin mask ops l v final_word x → Covers ops l x
covers_of mask ops l v final_word x c = record { done = c.done; once = c.once }

dropping : (mask : ℕ) (ops : List Operation) (final_word : Option ℕ) (p : Position) (x : List ℕ) → IsReady (length ops) p → p.first < length ops → times_in x p.first ≡ 0
    → FinishesWithin mask ops (is_left (length ops) p) p.word final_word x → ByDroppingWithin mask ops final_word p
dropping mask ops final_word p x ready below none c = (absent ops l p.first x (ready.left below) none covers, goes)
  where
    l : ℕ → Bool
    l = is_left (length ops) p

    covers : Covers ops l x
    covers = covers_of mask ops l p.word final_word x c

    goes : GoesOnBy mask ops final_word p p.first p.word
    goes q settles agree =
        let left = covers_settled ops l (is_left (length ops) q) p.first x
        (parts l (is_left (length ops) q) p.first (ready.left below) (left_settles (length ops) p p.first q settles)) none covers in (
          x,
          same_word mask ops (is_left (length ops) q) p.word q.word final_word x (turned mask p.word q.word agree)
              (record { done = left.done; once = left.once; times = c.times; plays = c.plays }),
        )

by_first : (mask : ℕ) (ops : List Operation) (final_word : Option ℕ) (p : Position) (i : ℕ) (y : List ℕ) → CanCome ops p i
    → FinishesWithin mask ops (is_left (length ops) p) p.word final_word (i ∷ y) → ByTakingWithin mask ops final_word p i
unfolding PlayWithin IsInTime
by_first mask ops final_word p i y comes c = record { comes = comes; leaves = c.plays.0; steps = c.plays.1; rest = goes }
  where
    goes : GoesOnBy mask ops final_word p i c.plays.0
    goes q settles agree =
        let left = covers_rest ops (is_left (length ops) p) (is_left (length ops) q) i y
        (parts (is_left (length ops) p) (is_left (length ops) q) i comes.0 (left_settles (length ops) p i q settles))
        (covers_of mask ops (is_left (length ops) p) p.word final_word (i ∷ y) c) in (
          y,
          same_word mask ops (is_left (length ops) q) c.plays.0 q.word final_word y (turned mask c.plays.0 q.word agree)
              (record { done = left.done; once = left.once; times = c.times.1; plays = c.plays.2 }),
        )

-- an order goes on by an operation that can come next, or without the first
goes_on : (mask : ℕ) (ops : List Operation) (final_word : Option ℕ) (p : Position) (x : List ℕ) → AreSorted ops → IsReady (length ops) p → p.first < length ops
    → FinishesWithin mask ops (is_left (length ops) p) p.word final_word x
    → ((i : ℕ) × ByTakingWithin mask ops final_word p i) ⊎ ByDroppingWithin mask ops final_word p
unfolding times_in
goes_on mask ops final_word p [] sorted ready below c = inr (dropping mask ops final_word p [] ready below refl c)
goes_on mask ops final_word p (i ∷ y) sorted ready below c = by_times (times_in (i ∷ y) p.first) refl
  where
    left : is_left (length ops) p i ≡ true
    left = covers_first ops (is_left (length ops) p) i y (covers_of mask ops (is_left (length ops) p) p.word final_word (i ∷ y) c)

    by_times : (n : ℕ) → times_in (i ∷ y) p.first ≡ n → ((i : ℕ) × ByTakingWithin mask ops final_word p i) ⊎ ByDroppingWithin mask ops final_word p
    by_times zero none = inr (dropping mask ops final_word p (i ∷ y) ready below none c)
    by_times (suc n) some =
        inl (i, by_first mask ops final_word p i y (left, begins_early ops p i y sorted left c.times (omega (arith, some))) c)

-- where all that can come next were tried, and the first cannot be left out, a position is dead
pub tried_all : (mask : ℕ) (ops : List Operation) (final_word : Option ℕ) (p : Position) (k : ℕ) → AreSorted ops → IsReady (length ops) p → p.first < length ops
    → AreTriedWithin mask ops final_word p k → ((i : ℕ) → k ≤ i → i < length ops → (at ops p.first).end < (at ops i).start)
    → (ByDroppingWithin mask ops final_word p → ⊥) → IsDeadWithin mask ops final_word p
tried_all mask ops final_word p k sorted ready below tried late dropped (x, c) = elim (goes_on mask ops final_word p x sorted ready below c) [
  | inl (i, taking) ↦ elim (cases_lt i k) [
    | inl before ↦ tried i before taking
    | inr after ↦
        let is = left_is (length ops) p i taking.comes.0 in
        let starts : (at ops i).start ≤ (at ops p.first).end = taking.comes.1 in
        let ends : (at ops p.first).end < (at ops i).start = late i after is.0 in
        absurd (omega (arith, starts, ends))
  ]
  | inr dropping ↦ dropped dropping
]

-- none of the operations that start too late can come
pub late_more : (mask : ℕ) (ops : List Operation) (final_word : Option ℕ) (p : Position) (k m : ℕ) → AreTriedWithin mask ops final_word p k → AreLate ops p k m
    → AreTriedWithin mask ops final_word p m
late_more mask ops final_word p k m tried late i before taking = elim (cases_lt i k) [
  | inl earlier ↦ tried i earlier taking
  | inr from ↦ not_late ops p k m i late from before taking.comes
]

-- each step of a path was made from a position that is ready, and the operations before the place to which it had come were tried
pub record IsTriedStep (mask : ℕ) (ops : List Operation) (final_word : Option ℕ) (step : Step) : Type 0 where
  pub ready : IsReady (length ops) (position_of step.from)
  pub tried : AreTriedWithin mask ops final_word (position_of step.from) step.tried

-- before the first none can come
pub none_tried : (mask : ℕ) (ops : List Operation) (final_word : Option ℕ) (p : Position) (k : ℕ) → k ≤ p.first → AreTriedWithin mask ops final_word p k
none_tried mask ops final_word p k from i before taking = let is = left_is (length ops) p i taking.comes.0 in absurd (omega (arith, is.1))

-- where none is left, the word is the one that was observed
pub at_end : (mask : ℕ) (ops : List Operation) (final_word : Option ℕ) (p : Position) → length ops ≤ p.first → EndsWithin mask ops final_word p
    → IfSome final_word (λ seen. Agree mask p.word seen)
unfolding PlayWithin
at_end mask ops final_word p past ([], c) = c.plays
at_end mask ops final_word p past (i ∷ y, c) =
    let is = left_is (length ops) p i (covers_first ops (is_left (length ops) p) i y (covers_of mask ops (is_left (length ops) p) p.word final_word (i ∷ y) c)) in
    absurd (omega (arith, is.0, is.1))

-- an operation that keeps the bits may be settled first
pub settles_kept : (mask : ℕ) (ops : List Operation) (p q : Position) (i : ℕ) → is_left (length ops) p i ≡ true → KeepsWithin mask (at ops i) → Settles p i q
    → q.word ≡ p.word → GoesOnWithin mask ops p q
settles_kept mask ops p q i left keeps settles same final_word (x, c) = (
  without i x,
  subst (λ w. FinishesWithin mask ops (is_left (length ops) q) w final_word (without i x)) (sym same)
      (finishes_without mask ops (is_left (length ops) p) (is_left (length ops) q) p.word final_word i x
      (parts (is_left (length ops) p) (is_left (length ops) q) i left (left_settles (length ops) p i q settles)) keeps c),
)

-- a test that is not passed by its opposite
pub is_not : (b : Bool) → not b ≡ false → b ≡ true
is_not true none = refl
is_not false none = absurd (true≢false none)

-- a word's bits of the mask are those that it has there
pub agree_and : (mask w : ℕ) → Agree mask w (bit_and w mask)
agree_and mask w k one = omega (arith, bit_at_and w mask k, one, bit_at-lt w k)

-- a position is dead where one is that was reached from a copy of it, of whose word the bits of the mask were kept
pub dead_from : (mask : ℕ) (ops : List Operation) (final_word : Option ℕ) (from copy reached start : Position) → copy ≡ from
    → GoesOnWithin mask ops (record copy { word = bit_and copy.word mask }) reached → start ≡ reached → IsDeadWithin mask ops final_word start → IsDeadWithin mask ops final_word from
dead_from mask ops final_word from copy reached start same goes here dead ends =
    let there : EndsWithin mask ops final_word copy = subst (EndsWithin mask ops final_word) (sym same) ends in
    dead (subst (EndsWithin mask ops final_word) (sym here) (goes final_word (
      there.0,
      same_word mask ops (is_left (length ops) copy) copy.word (bit_and copy.word mask) final_word there.0
          (turned mask copy.word (bit_and copy.word mask) (agree_and mask copy.word)) there.1,
    )))
