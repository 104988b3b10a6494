-- what is said of where the operations that are kept stop being explained
use Rattle.std.proofs.Common.{◌≡◌, ℕ, ◌+◌, ◌-◌, ◌<◌, ◌≤◌, List, [], ◌∷◌, All, filter, get_or, length, take, sym, subst, true, false, arith}
use Rattle.std.specs.Prelude.{IsPermutation}
use Rattle.std.specs.List.{Contains}
use Rattle.std.proofs.lemmas.List.{get_or_default}
use Rattle.chi_trace.specs.declared.operation.Operation.{Operation}
use Rattle.chi_trace.specs.AtPlaces.{GranulesStandAlone}
use Rattle.chi_trace.specs.Explains.{at, is_answered, nothing}
use Rattle.chi_judge.specs.Reaches.{IsExplained, IsJudgeOf, is_open_at}
use Rattle.chi_judge.specs.Judges.{EndedWithin, GoesNowhere, JudgeValue}
use Rattle.chi_judge.specs.Searches.{AreSeen, IsSeen, IsUnexplained, is_during}
use Rattle.chi_judge.proofs.Reached.{earlier_seen, end_seen, explained_before, open_has, open_then, some_answered, stopped_last, whole_last, words_whole}

-- what is said of the place of an operation up to whose end no order explains them
pub record StopsAt (r : JudgeValue) (trace : List Operation) (g w : ℕ) (kept : List Operation) (ops : List Operation) (place time : ℕ) : Type 0 where
  pub seen : (earlier : ℕ) → earlier + 1 ≡ time → IsSeen r earlier
  pub seen_then : IsSeen r time
  pub from : r.since ≤ time
  pub here : IsExplained time trace g w → ⊥
  pub before : ((i : ℕ) → i + 1 ≡ place → IsExplained (at ops i).end trace g w) → (earlier : ℕ) → earlier + 1 ≡ time → IsExplained earlier trace g w
  pub answered : ((earlier : ℕ) → earlier + 1 ≡ time → IsExplained earlier trace g w) → All (λ op. is_answered op ≡ true → op.end ≡ time → ⊥) ops → ⊥
  pub overlapping : (during : List Operation) → IsPermutation (filter (is_during time) kept) during → IsPermutation (filter (is_open_at g time) trace) during
  pub has : (during : List Operation) → IsPermutation (filter (is_during time) kept) during → (t : Operation) → Contains kept t → t.end ≡ time → Contains during t

pub stops_at : GranulesStandAlone → (r : JudgeValue) (more : List Operation) (kept : List Operation) (place : ℕ) (d : Operation) → more ≡ r.kept → kept ≡ r.kept
    → place < length more → AreSeen r more (place + 1) → IsUnexplained r (at more place).end → (trace : List Operation) (g w : ℕ) → IsJudgeOf trace g w r
    → StopsAt r trace g w kept more place (get_or more place d).end
stops_at law r more kept place d ops_is kept_is within seen unexplained trace g w is =
    subst (λ (l : List Operation). StopsAt r trace g w l more place (get_or more place d).end) (sym kept_is)
    (subst (λ (o : Operation). StopsAt r trace g w r.kept more place o.end) (sym (get_or_default more place d nothing within))
    (subst Stated (sym ops_is) stated within seen (unexplained trace g w is)))
  where
    Stated : List Operation → Type 0
    Stated ops = place < length ops → AreSeen r ops (place + 1) → (IsExplained (at ops place).end trace g w → ⊥) → StopsAt r trace g w r.kept ops place (at ops place).end

    stated : Stated r.kept
    stated inside are none = record {
      seen = earlier_seen law trace g w r is place inside are;
      from = (is.keeps.ends place nothing inside).0;
      seen_then = end_seen law trace g w r is (place + 1) place are (omega arith) inside;
      here = none;
      before = λ first. explained_before law trace g w r is place inside are first none;
      answered = some_answered law trace g w r is place inside are none;
      overlapping = open_then law trace g w r is place inside are;
      has = open_has law trace g w r is place inside are;
    }

-- an end that is seen
pub place_seen : (r : JudgeValue) (more : List Operation) (count place : ℕ) → more ≡ r.kept → AreSeen r more count → place < count → place < length more
    → (trace : List Operation) (g w : ℕ) → IsJudgeOf trace g w r → IsSeen r (at more place).end
place_seen r more count place ops_is seen first within trace g w is =
    let ends = subst (All (EndedWithin r.since is.now)) (sym ops_is) is.keeps.ends in
    let from : r.since ≤ (at more place).end = (ends place nothing within).0 in
    record { since = omega (arith, from); before = seen place first }

-- the last end before the horizon, where it has stopped
pub last_before : GranulesStandAlone → (r : JudgeValue) (more : List Operation) (count : ℕ) → more ≡ r.kept → r.is_stopped ≡ true
    → count ≤ length more → All (λ op. op.end < r.horizon) (take count more) → (count < length more → r.horizon ≤ (at more count).end)
    → (trace : List Operation) (g w : ℕ) → IsJudgeOf trace g w r → (0 < count) × (IsExplained (at more (count - 1)).end trace g w → ⊥)
last_before law r more count ops_is stopped within before first trace g w is =
    subst (λ (ops : List Operation). count ≤ length ops → All (λ op. op.end < r.horizon) (take count ops) → (count < length ops → r.horizon ≤ (at ops count).end)
    → (0 < count) × (IsExplained (at ops (count - 1)).end trace g w → ⊥)) (sym ops_is)
    (stopped_last law trace g w r is stopped count) within before first

-- and of all, where it has not
pub last_of_all : GranulesStandAlone → (r : JudgeValue) (more : List Operation) (count : ℕ) → more ≡ r.kept → r.is_stopped ≡ false → count ≡ length more → GoesNowhere r.before r.kept
    → (trace : List Operation) (g w : ℕ) → IsJudgeOf trace g w r → (0 < count) × (IsExplained (at more (count - 1)).end trace g w → ⊥)
last_of_all law r more count ops_is goes count_is none trace g w is =
    subst (λ (n : ℕ). (0 < n) × (IsExplained (at more (n - 1)).end trace g w → ⊥)) (sym count_is)
    (subst (λ (ops : List Operation). (0 < length ops) × (IsExplained (at ops (length ops - 1)).end trace g w → ⊥)) (sym ops_is)
    (whole_last law trace g w r is goes (λ v can. none (w ∷ []) is.keeps.earlier is.keeps.follows v ((words_whole law trace g w r is goes v).1 can))))
