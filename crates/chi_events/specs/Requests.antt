-- how the outstanding requests are kept: by their numbers, and of each granule when its own were taken
use Rattle.std.specs.Prelude.{◌≡◌, ℕ, ◌-◌, ◌^◌, ◌==◌, nat_eq, All, List, [], ◌++◌, ◌∷◌, filter, map, reverse, Option, None, Some, Vec}
use Rattle.std.specs.HashMap.{HashMap, get}
use Rattle.std.specs.Map.{values_of}
use Rattle.std.specs.declared.alloc.Global.{Global}
use Rattle.std.specs.declared.hash.BuildHasherDefault.{BuildHasherDefault}
use Rattle.std.specs.declared.hash.FoldHasher.{FoldHasher}
use Rattle.lru.specs.LruCache.{LruCache}
use Rattle.chi_events.specs.Granules.{granule_of_request}
use Rattle.chi_events.specs.declared.outstanding.Open.{Open}
use Rattle.chi_events.specs.declared.starts.Start.{Start}

-- the last that was taken is kept first
abbrev pub requests_of : LruCache ℕ Open → List Open
requests_of kept = reverse (values_of kept.entries)

abbrev pub Starts : Type 0
Starts = HashMap ℕ (Vec Start Global) (BuildHasherDefault FoldHasher)

abbrev pub items_of : Option (Vec Start Global) → List Start
items_of None = []
items_of (Some starts) = starts.items

-- what is kept of a granule
abbrev pub starts_at : Starts → ℕ → List Start
starts_at kept granule = items_of (get nat_eq kept granule)

abbrev pub start_of : Open → Start
start_of o = record { id = o.id; time = o.start }

-- when the requests of a granule were taken
abbrev pub starts_among : ℕ → List Open → List Start
starts_among granule requests = map start_of (filter (λ o. granule_of_request o == granule) requests)

-- each request is kept by its number, there is room for more, and of each granule its requests are kept
pub record AreKept (kept : LruCache ℕ Open) (starts : Starts) : Type 0 where
  pub numbered : All (λ e. e.0 ≡ e.1.id) kept.entries
  pub room : kept.cap ≡ 2 ^ 64 - 1
  pub granules : (granule : ℕ) → starts_at starts granule ≡ starts_among granule (requests_of kept)

-- A request is replaced by what is left of it, which stays in its place.
pub record Replaces (request : Open) (left : List Open) (before after : List Open) : Type 0 where
  pub first : List Open
  pub rest : List Open
  pub was : before ≡ first ++ request ∷ rest
  pub is : after ≡ first ++ (left ++ rest)
