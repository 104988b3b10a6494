-- how many requesters of a race can work at the same time
use Rattle.std.specs.Prelude.{ℕ, ◌≤◌, ◌&&◌, nat_le, if◌then◌else◌, Option, Some, None}

-- the greatest number of them: a home serves eight requesters, and 0 is none of those who work at the same time
abbrev pub most_workers : ℕ
most_workers = 7

abbrev pub IsWorkerCount : ℕ → Type 0
IsWorkerCount n = (1 ≤ n) × (n ≤ most_workers)

-- so many, where that is a count of workers
abbrev pub workers_of_count : ℕ → Option ℕ
workers_of_count n = if nat_le 1 n && nat_le n most_workers then Some n else None
