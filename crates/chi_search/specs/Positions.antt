-- where a search of one granule is: which operations are left, and the word that the others left
use Rattle.std.specs.Prelude.{◌≡◌, ℕ, ◌-◌, ◌/◌, ◌%◌, ◌<◌, ◌≤◌, ◌==◌, nat_le, nat_lt, Bool, true, not, ◌&&◌, List, [], ◌∷◌, slice_index}
use Rattle.std.specs.Int.{bit_at}
use Rattle.chi_search.specs.declared.settled.Settled.{Settled}
use Rattle.chi_search.specs.declared.state.State.{State}

-- bit k of a list of words of 64 bits, the lowest bit of the first word first
abbrev pub has_bit : List ℕ → ℕ → Bool
has_bit words k = bit_at (slice_index words (k / 64)) (k % 64) == 1

-- The operations before `first` are settled: each was taken, or left out for good. Of those from it on the ones whose bit is
-- 1 are settled, bit 0 that of `first`. The word is what those that were taken left.
pub record Position : Type 0 where
  pub first : ℕ
  pub settled : List ℕ
  pub word : ℕ

-- the operation is not settled
abbrev pub is_unsettled : Position → ℕ → Bool
is_unsettled p i = nat_le p.first i && not (has_bit p.settled (i - p.first))

-- it is one of so many, and not settled
abbrev pub is_left : ℕ → Position → ℕ → Bool
is_left count p i = nat_lt i count && is_unsettled p i

-- of so many operations the first is left, if any is, and so is each that comes after them
pub record IsReady (count : ℕ) (p : Position) : Type 0 where
  pub within : p.first ≤ count
  pub left : p.first < count → is_left count p p.first ≡ true
  pub later : (j : ℕ) → count ≤ j → is_unsettled p j ≡ true

-- the position told without the first operations, which it has passed
abbrev pub back_by : ℕ → Position → Position
back_by k p = record p { first = p.first - k }

-- what is not settled once operation i is too
abbrev pub Settles : Position → ℕ → Position → Type 0
Settles p i q = (j : ℕ) → is_unsettled q j ≡ (is_unsettled p j && not (j == i))

-- the words of a set of numbers
abbrev pub words_of : Settled → List ℕ
words_of s = s.near ∷ s.beyond.items

-- where a search begins
abbrev pub start : ℕ → Position
start w = record { first = 0; settled = 0 ∷ []; word = w }

-- where a state of the search is
abbrev pub position_of : State → Position
position_of s = record { first = s.first; settled = words_of s.settled; word = s.word }
