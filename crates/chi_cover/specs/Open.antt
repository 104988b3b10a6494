-- what is kept of each granule's operations, while a trace is gone through
use Rattle.std.specs.Prelude.{◌≡◌, ℕ, ◌<◌, ◌≤◌, ◌==◌, nat_eq, nat_le, ◌&&◌, All, AllPairs, Bool, false, List, [], Option, None, Some, count_by, length, min}
use Rattle.std.specs.HashMap.{get, HashMap}
use Rattle.std.specs.List.{filter, list_any}
use Rattle.std.specs.declared.hash.BuildHasherDefault.{BuildHasherDefault}
use Rattle.std.specs.declared.hash.FoldHasher.{FoldHasher}
use Rattle.chi_trace.specs.declared.operation.Operation.{Operation}
use Rattle.chi_trace.specs.Explains.{at}
use Rattle.chi_cover.specs.declared.kept.Kept.{Kept}
use Rattle.chi_cover.specs.Numbers.{transaction_number}
use Rattle.chi_cover.specs.Traffic.{open_among, open_before, transaction_of}

-- Two operations are alike: they are of the same transaction and requester, and their operands are the same bytes. No bin of traffic
-- tells which of them is open.
unfoldable pub are_alike : Operation → Operation → Bool
are_alike a b =
    transaction_number (transaction_of a.access.kind) == transaction_number (transaction_of b.access.kind)
    && (a.src == b.src && (a.access.addr == b.access.addr && a.access.len == b.access.len))

-- some operation at these places is alike to one
abbrev pub has_alike : List Operation → List ℕ → Operation → Bool
has_alike trace places op = list_any (λ j. are_alike (at trace j) op) places

-- an operation is alike to another, and ends no earlier
abbrev pub outlasts : Operation → Operation → Bool
outlasts op other = nat_le other.end op.end && are_alike op other

-- how many of these ends are not before a time
abbrev pub count_from : ℕ → List ℕ → ℕ
count_from time ends = count_by (nat_le time) ends

-- a count, of which eight stands for that many and more: with the operation that starts, more than eight are open then
abbrev pub up_to_eight : ℕ → ℕ
up_to_eight n = min n 8

-- those of these places whose operations had not ended before a time
abbrev pub ended_after : List Operation → ℕ → List ℕ → List ℕ
ended_after trace time places = filter (λ j. nat_le time (at trace j).end) places

-- at most eight of these ends, the latest: at any time as many of them are not before it as of all, up to eight
pub record AreLatestEnds (all kept : List ℕ) : Type 0 where
  pub few : length kept ≤ 8
  pub same : (time : ℕ) → up_to_eight (count_from time kept) ≡ up_to_eight (count_from time all)

-- no two operations at these places are alike
abbrev pub AreUnlike : List Operation → List ℕ → Type 0
AreUnlike trace places = AllPairs (λ j k. are_alike (at trace j) (at trace k) ≡ false) places

-- of the operations at these places that are alike, the one that ends last: at any time some operation that is kept and had not ended
-- is alike to one exactly where some operation of all is
pub record AreLatest (trace : List Operation) (all kept : List ℕ) : Type 0 where
  pub unlike : AreUnlike trace kept
  pub same : (time : ℕ) (op : Operation) → has_alike trace (ended_after trace time kept) op ≡ has_alike trace (ended_after trace time all) op

-- what is kept of each granule's operations
abbrev pub OpenOperations : Type 0
OpenOperations = HashMap ℕ Kept (BuildHasherDefault FoldHasher)

abbrev pub ends_in : Option Kept → List ℕ
ends_in None = []
ends_in (Some kept) = kept.ends.items

abbrev pub places_in : Option Kept → List ℕ
places_in None = []
places_in (Some kept) = kept.places.items

-- the ends that are kept of a granule's operations, and the places
abbrev pub ends_of : OpenOperations → ℕ → List ℕ
ends_of kept granule = ends_in (get nat_eq kept granule)

abbrev pub places_of : OpenOperations → ℕ → List ℕ
places_of kept granule = places_in (get nat_eq kept granule)

-- the first n operations had started by a time
abbrev pub HaveStarted : List Operation → ℕ → ℕ → Type 0
HaveStarted trace n time = (j : ℕ) → j < n → (at trace j).start ≤ time

-- What is kept of each granule, once the first n operations were taken. At any time from then on as many of its ends are not before
-- that time as operations of the granule are open, up to eight. And some operation at its places is open and alike to one exactly
-- where some operation of the granule is.
pub record AreKept (trace : List Operation) (n : ℕ) (kept : OpenOperations) : Type 0 where
  pub few : (granule : ℕ) → length (ends_of kept granule) ≤ 8
  pub places : (granule : ℕ) → All (λ j. j < n) (places_of kept granule)
  pub unlike : (granule : ℕ) → AreUnlike trace (places_of kept granule)
  pub count : (granule time : ℕ) → HaveStarted trace n time → up_to_eight (count_from time (ends_of kept granule)) ≡ up_to_eight (length (open_among trace n granule time))
  pub alike : (granule time : ℕ) (op : Operation) → HaveStarted trace n time
      → has_alike trace (ended_after trace time (places_of kept granule)) op ≡ has_alike trace (open_among trace n granule time) op

-- What was kept of an operation's granule when it started: as many ends as operations were open, up to eight, and places of which some
-- operation is alike to one exactly where some open operation is.
pub record AreOpen (trace : List Operation) (i : ℕ) (before : Kept) : Type 0 where
  pub places : All (λ j. j < i) before.places.items
  pub count : up_to_eight (length before.ends.items) ≡ up_to_eight (length (open_before trace i))
  pub alike : (op : Operation) → has_alike trace before.places.items op ≡ has_alike trace (open_before trace i) op
