-- what is said where the events end
use Rattle.std.specs.Prelude.{◌≡◌, ℕ, ◌+◌, ◌-◌, ◌^◌, ◌≤◌, ◌++◌, ◌⊎◌, if◌then◌else◌, List, [], ◌∷◌, Option, None, Some, is_none, flat_map, IfSome}
use Rattle.std.specs.List.{Contains}
use Rattle.chi_events.specs.declared.outstanding.Open.{Open}
use Rattle.chi_judge.specs.Judges.{Keeps}
use Rattle.chi_judge.specs.Until.{until}
use Rattle.chi_judge.specs.Standings.{IsExplainable as CanExplain, IsInexplicable as CanNotExplain}
use Rattle.chi_trace.specs.declared.operation.Operation.{Operation}
use Rattle.chi_events.specs.Granules.{granule_of_request}
use Rattle.chi_watch.specs.Watches.{unknown_by}
use Rattle.chi_watch.specs.Followed.{FollowedValue}

-- the granule is listed: as one that no order explains, or as one of which that is not decided
abbrev pub IsListed : ℕ → List ℕ → List ℕ → Type 0
IsListed g unexplained undecided = Contains unexplained g ⊎ Contains undecided g

-- an operation that started at this time and is open at the end can be told of its granule, which is watched
abbrev pub TakesOpen : ℕ → Option FollowedValue → Type 0
TakesOpen start None = ⊥
TakesOpen start (Some f) = (f.judge.horizon ≤ start) × (f.judge.latest ≤ 2 ^ 64 - 1)

-- an outstanding request's operation can be told, once its data have come
pub record CanClose (granules : ℕ → Option FollowedValue) (p : Open) : Type 0 where
  pub at : IfSome p.access (λ access. access.addr ≡ p.fields.addr)
  pub within : IfSome p.access (λ access. access.addr + access.len ≤ 2 ^ 52)
  pub lasting : p.start ≤ 2 ^ 64 - 1
  pub takes : TakesOpen p.start (granules (granule_of_request p))

-- these operations more were told of the granule, as far as all that wrote to it is told
pub record AreTold (ops : List Operation) (old new : FollowedValue) : Type 0 where
  pub keeps : (words : List ℕ) (told : List Operation) → Keeps words told (2 ^ 64 - 1) old.judge
      → Keeps words (told ++ flat_map (λ op. until (unknown_by old.gaps old.unknown_since op.start) (op ∷ [])) ops) (2 ^ 64 - 1) new.judge
  pub shown : new.judge.shown ≡ old.judge.shown
  pub final_word : new.final_word ≡ old.final_word
  pub since : new.unknown_since ≡ old.unknown_since
  pub gaps : new.gaps ≡ old.gaps

-- These operations more were told of a granule, where it is watched. There are none where it is not.
abbrev pub AreToldTo : List Operation → Option FollowedValue → Option FollowedValue → Type 0
AreToldTo ops None None = ops ≡ []
AreToldTo ops None (Some new) = ⊥
AreToldTo ops (Some old) None = ⊥
AreToldTo ops (Some old) (Some new) = AreTold ops old new

-- the word at the end that is judged: that of a granule of which all that wrote to it is told
abbrev pub judged_word : FollowedValue → Option ℕ
judged_word f = if is_none f.unknown_since then f.final_word else None

-- some order explains what was told of the granule, and leaves that word
abbrev pub IsExplainable : FollowedValue → Type 0
IsExplainable f = CanExplain f.judge (judged_word f)

-- no such order does
abbrev pub IsInexplicable : FollowedValue → Type 0
IsInexplicable f = CanNotExplain f.judge (judged_word f)

abbrev pub IsInexplicableAt : Option FollowedValue → Type 0
IsInexplicableAt None = ⊥
IsInexplicableAt (Some f) = IsInexplicable f
