-- How many states were looked at. A search breadth first that found more than it may look at counts as many of them as were left,
-- too.
use Rattle.std.specs.Prelude.{ℕ, ◌+◌, ◌≤◌, Option, MatchOption}

-- The searches in which states are counted: those for a verdict, and those that only say more of one, which was found once so many
-- states had been looked at.
pub data Search : Type 0 where
  for_verdict : Search
  after_verdict : ℕ → Search

-- so many states more were counted: what was known of their number before is known of so many more after
abbrev pub LookedMore : {P : Type 0} → (Search → P → ℕ → Type 0) → P → P → ℕ → Type 0
LookedMore looked old new k = (s : Search) (n : ℕ) → looked s old n → looked s new (n + k)

-- some states were
abbrev pub LookedSome : {P : Type 0} → (Search → P → ℕ → Type 0) → P → P → Type 0
LookedSome looked old new = (k : ℕ) × LookedMore looked old new k

-- at least so many states were
abbrev pub LookedAtLeast : {P : Type 0} → (Search → P → ℕ → Type 0) → P → P → ℕ → Type 0
LookedAtLeast looked old new budget = (k : ℕ) × (budget ≤ k) × LookedMore looked old new k

-- the number of states that were looked at has grown by at least so many
abbrev pub GrewBy : {P : Type 0} → (P → ℕ → Type 0) → P → P → ℕ → Type 0
GrewBy states old new budget = (n : ℕ) → states old n → (m : ℕ) × (n + budget ≤ m) × states new m

-- it has grown, or stayed the same
abbrev pub Grew : {P : Type 0} → (P → ℕ → Type 0) → P → P → Type 0
Grew states old new = GrewBy states old new 0

-- so many states were looked at for a verdict, which was found then, and so many were counted since
abbrev pub FoundThenLooked : {P : Type 0} → (P → ℕ → Type 0) → (Search → P → ℕ → Type 0) → P → P → ℕ → ℕ → Type 0
FoundThenLooked states looked old new verdict more = (n : ℕ) → states old n → looked (after_verdict (n + verdict)) new (n + verdict + more)

-- at least so many were for the verdict that was found last
abbrev pub FoundBy : {P : Type 0} → (P → ℕ → Type 0) → (Search → P → ℕ → Type 0) → P → P → ℕ → Type 0
FoundBy states looked old new count = (n : ℕ) → states old n → (verdict : ℕ) × (n + count ≤ verdict) × ((m : ℕ) × (verdict ≤ m) × looked (after_verdict verdict) new m)

-- Where the searches after the last verdict were not cut short, each state that was counted since is one that was looked at. Where they
-- were, at least so many were looked at since.
abbrev pub IsCutShort : {P : Type 0} → (P → ℕ → Type 0) → (Search → P → ℕ → Type 0) → P → Option ℕ → Type 0
IsCutShort states looked p cut_short =
    (verdict n : ℕ) → looked (after_verdict verdict) p n → MatchOption cut_short (states p n) (λ most. (m : ℕ) × (verdict + most ≤ m) × states p m)
