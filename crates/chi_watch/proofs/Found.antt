-- granules that are quiet, or of which it is known that nothing explains them
use Rattle.std.proofs.Common.{◌≡◌, ℕ, ◌-◌, ◌/◌, ◌^◌, ◌≤◌, ◌==◌, ◌⊎◌, ◌||◌, Bool, true, false, List, [], ◌∷◌, ◌++◌, All, Option, Some, None, IfSome, IsTrue, cond, get_or, inl, inr, not, filter, filter_map, flat_map, refl, sym, ap, subst, ◌∙◌, append_assoc, append-nil, arith, eqb-true, eq-eqb, true≢false}
use Rattle.std.specs.Prelude.{IsPermutation, is_none}
use Rattle.std.specs.List.{list_any}
use Rattle.std.proofs.lemmas.Bool.{or_parts}
use Rattle.std.proofs.lemmas.List.Elements.{All-append, All-cons, All-head, All-nil, All-tail, All-weaker, filter-append}
use Rattle.chi_fields.specs.Access.{Access}
use Rattle.chi_events.specs.EventLaws.{OperationsAreTold}
use Rattle.chi_events.specs.declared.event.Event.{Event}
use Rattle.chi_events.specs.declared.outstanding.Open.{Open}
use Rattle.chi_events.specs.Outstanding.{IsOpen, OutstandingValue, open_operation}
use Rattle.chi_judge.specs.Judges.{JudgeValue, Keeps}
use Rattle.chi_judge.specs.Standings.{IsInexplicable}
use Rattle.chi_judge.proofs.Keeping.{keeps_later, keeps_stopped}
use Rattle.chi_trace.specs.AtPlaces.{GranulesStandAlone, is_in}
use Rattle.chi_trace.specs.Granules.{ExplainsGranule, granule_of}
use Rattle.chi_trace.specs.TraceLaws.{PartsExplain}
use Rattle.chi_trace.specs.declared.operation.Operation.{Operation}
use Rattle.chi_trace.specs.Words.{word_or_zero}
use Rattle.chi_watch.specs.Endings.{IsExplainable}
use Rattle.chi_watch.specs.Judged.{CanBeExplained, final_of, is_known, judged, judged_part, unknown_at, unknown_since}
use Rattle.chi_watch.specs.WordsTold.{openings, writes_told}
use Rattle.chi_events.specs.Granules.{IsQuiet, granule_of_request}
use Rattle.chi_watch.specs.Watches.{CanBeJudged, HasStopped, HasTaken, IsFound, IsGranuleOf, IsUnexplained, IsWatched, WatchValue, Watches, granule, told_of}
use Rattle.chi_watch.specs.Followed.{FollowedValue}
use Rattle.chi_watch.proofs.Lists.{All-filter_map}
use Rattle.chi_watch.proofs.Verdicts.{can_without, is_judge, not_explained, quiet_none, told_by, whole_not_explained, word_is}
use Rattle.chi_watch.proofs.JudgedParts.{part_all}
use Rattle.chi_watch.proofs.MoreTold.{parts_moved}

pub is_quiet : (requests : List Open) (g : ℕ) → list_any (λ (p : Open). granule_of_request p == g) requests ≡ false → IsQuiet requests g
is_quiet [] g none = All-nil (λ (p : Open). granule_of_request p ≡ g → ⊥)
is_quiet (p ∷ requests) g none = by_test (granule_of_request p == g) refl none (is_quiet requests g)
  where
    by_test : (b : Bool) → (granule_of_request p == g) ≡ b → (b || list_any (λ (q : Open). granule_of_request q == g) requests) ≡ false
        → (list_any (λ (q : Open). granule_of_request q == g) requests ≡ false → IsQuiet requests g) → IsQuiet (p ∷ requests) g
    by_test true same none rest = absurd (true≢false none)
    by_test false other none rest = All-cons (λ (q : Open). granule_of_request q ≡ g → ⊥) p requests (λ is. true≢false (sym (eq-eqb (granule_of_request p) g is) ∙ other)) (rest none)

module _ (events : List Event) (ended : List Operation) (w : WatchValue) (are_open : All (IsOpen w.outstanding.time) w.outstanding.requests) (g : ℕ)
    (quiet : list_any (λ p. granule_of_request p == g) w.outstanding.requests ≡ false) where
  none : filter (is_in g) (filter_map open_operation w.outstanding.requests) ≡ []
  none = quiet_none w.outstanding.requests g
      (All-weaker (IsOpen w.outstanding.time) (λ (p : Open). IfSome p.access (λ access. access.addr ≡ p.fields.addr)) (λ p o. o.at) w.outstanding.requests are_open) (is_quiet w.outstanding.requests g quiet)

  pub alone : told_of events (told_by ended w.outstanding) g ≡ told_of events ended g
  alone =
      filter-append (is_in g) (ended ++ filter_map open_operation w.outstanding.requests) (writes_told events)
      ∙ (ap (λ (ops : List Operation). ops ++ filter (is_in g) (writes_told events))
      (filter-append (is_in g) ended (filter_map open_operation w.outstanding.requests) ∙ (ap (λ (ops : List Operation). filter (is_in g) ended ++ ops) none ∙ append-nil (filter (is_in g) ended)))
      ∙ sym (filter-append (is_in g) ended (writes_told events)))

-- a granule that can be judged, or cannot
pub can_be : (w : WatchValue) (g : ℕ) (f : FollowedValue) → granule w g ≡ Some f → (not (list_any (λ p. granule_of_request p == g) w.outstanding.requests) || f.judge.is_stopped) ≡ true → CanBeJudged w g
can_be w g f here can = by_test (list_any (λ p. granule_of_request p == g) w.outstanding.requests) refl can
  where
    by_test : (b : Bool) → list_any (λ p. granule_of_request p == g) w.outstanding.requests ≡ b → (not b || f.judge.is_stopped) ≡ true → CanBeJudged w g
    by_test true is_open stopped = inr (subst HasStopped (sym here) stopped)
    by_test false quiet so = inl quiet

pub can_not : (w : WatchValue) (g : ℕ) (f : FollowedValue) → granule w g ≡ Some f → (not (list_any (λ p. granule_of_request p == g) w.outstanding.requests) || f.judge.is_stopped) ≡ false → CanBeJudged w g → ⊥
can_not w g f here not_so can =
    let parts = or_parts (not (list_any (λ p. granule_of_request p == g) w.outstanding.requests)) f.judge.is_stopped not_so in
    elim can [
      | inl quiet ↦ true≢false (sym (ap not quiet) ∙ parts.0)
      | inr stopped ↦ true≢false (sym (subst HasStopped here stopped) ∙ parts.1)
    ]

-- what was told of a granule that has stopped, and then operations that start no earlier than its horizon, and have not ended
abbrev IsLate : JudgeValue → Operation → Type 0
IsLate r op = (r.horizon ≤ op.start) × (op.end ≡ 2 ^ 64 - 1)

keeps_open : (words : List ℕ) (r : JudgeValue) → IsTrue r.is_stopped → (ops told : List Operation) → All (IsLate r) ops → Keeps words told (2 ^ 64 - 1) r → Keeps words (told ++ ops) (2 ^ 64 - 1) r
keeps_open words r stopped [] told all keeps = subst (λ (l : List Operation). Keeps words l (2 ^ 64 - 1) r) (sym (append-nil told)) keeps
keeps_open words r stopped (op ∷ ops) told all keeps =
    let here = All-head (IsLate r) op ops all in
    subst (λ (l : List Operation). Keeps words l (2 ^ 64 - 1) r) (append_assoc told (op ∷ []) ops)
    (keeps_open words r stopped ops (told ++ op ∷ []) (All-tail (IsLate r) op ops all)
    (subst (λ n. Keeps words (told ++ op ∷ []) n r) here.1 (keeps_stopped words told (2 ^ 64 - 1) r keeps op (omega (arith, here.1)) here.0 stopped)))

-- so do the parts of them that had happened
late_parts : (events : List Event) (r : JudgeValue) (g : ℕ) (ops : List Operation) → All (λ op. granule_of op ≡ g → IsLate r op) ops → All (IsLate r) (flat_map (judged_part events) (filter (is_in g) ops))
late_parts events r g [] all = All-nil (IsLate r)
late_parts events r g (op ∷ ops) all = by_test (granule_of op == g) refl (late_parts events r g ops (All-tail (λ (o : Operation). granule_of o ≡ g → IsLate r o) op ops all))
  where
    rest : List Operation
    rest = filter (is_in g) ops

    by_test : (b : Bool) → (granule_of op == g) ≡ b → All (IsLate r) (flat_map (judged_part events) rest) → All (IsLate r) (flat_map (judged_part events) (cond b (op ∷ rest) rest))
    by_test true own late =
        All-append (IsLate r) (judged_part events op) (flat_map (judged_part events) rest)
        (part_all (unknown_at events (granule_of op) op.start) op (IsLate r)
        (λ part is here. (let by = here.0 in omega (arith, by, is.start), is.end ∙ here.1)) (All-head (λ (o : Operation). granule_of o ≡ g → IsLate r o) op ops all (eqb-true (granule_of op) g own))) late
    by_test false other late = late

-- the operation of an outstanding request starts with it, and has not ended
open_starts : (g horizon : ℕ) (p : Open) → IfSome p.access (λ access. access.addr ≡ p.fields.addr) → (granule_of_request p ≡ g → horizon ≤ p.start)
    → IfSome (open_operation p) (λ op. granule_of op ≡ g → (horizon ≤ op.start) × (op.end ≡ 2 ^ 64 - 1))
open_starts g horizon p at starts = by_access p.access at
  where
    by_access : (a : Option Access) → IfSome a (λ access. access.addr ≡ p.fields.addr) → IfSome (open_operation (record p { access = a })) (λ op. granule_of op ≡ g → (horizon ≤ op.start) × (op.end ≡ 2 ^ 64 - 1))
    by_access None is = tt
    by_access (Some access) is = λ own. (starts (ap (λ addr. addr / 8) (sym is) ∙ own), refl)

-- All the operations of a granule count as told, where it is quiet, or has stopped.
pub record AreAllKept (events : List Event) (ended : List Operation) (o : OutstandingValue) (g : ℕ) (f : FollowedValue) : Type 0 where
  pub told : List Operation
  pub are : IsPermutation (flat_map (judged_part events) (told_of events (told_by ended o) g)) told
  pub keeps : Keeps (word_or_zero (openings events) g ∷ []) told (2 ^ 64 - 1) f.judge

pub keeps_all : (events : List Event) (ended : List Operation) (w : WatchValue) → All (IsOpen w.outstanding.time) w.outstanding.requests → Watches events ended w
    → (g : ℕ) (f : FollowedValue) → granule w g ≡ Some f → CanBeJudged w g → AreAllKept events ended w.outstanding g f
keeps_all events ended w are_open is g f here can =
    elim can [
      | inl quiet ↦ record {
        told = watched.told;
        are = subst (λ l. IsPermutation (flat_map (judged_part events) l) watched.told) (sym (alone events ended w are_open g quiet)) watched.told_is;
        keeps = keeps;
      }
      | inr stopped ↦ record {
        told = watched.told ++ flat_map (judged_part events) (filter (is_in g) those);
        are = parts_moved events g ended those watched.told watched.told_is;
        keeps =
            keeps_open words f.judge (subst HasStopped here stopped) (flat_map (judged_part events) (filter (is_in g) those)) watched.told
            (late_parts events f.judge g those
            (All-filter_map open_operation (λ op. granule_of op ≡ g → (f.judge.horizon ≤ op.start) × (op.end ≡ 2 ^ 64 - 1)) w.outstanding.requests
            (λ i d below. open_starts g f.judge.horizon (get_or w.outstanding.requests i d) (are_open i d below).at (watched.horizon i d below))))
            keeps;
      }
    ]
  where
    words : List ℕ
    words = word_or_zero (openings events) g ∷ []

    those : List Operation
    those = filter_map open_operation w.outstanding.requests

    watched : IsWatched w.shown events ended w.outstanding g f
    watched = subst (IsGranuleOf w.shown events ended w.outstanding g) here (is.each g)

    keeps : Keeps words watched.told (2 ^ 64 - 1) f.judge
    keeps = keeps_later words watched.told w.outstanding.time f.judge watched.keeps (2 ^ 64 - 1) (omega (arith, is.time))

pub found_is : OperationsAreTold → PartsExplain → (events : List Event) (w : WatchValue) → All (IsOpen w.outstanding.time) w.outstanding.requests → HasTaken events w
    → (g : ℕ) → IsFound w g → IsUnexplained events g
found_is operations_law parts_law events w are_open (ended, is) g found = record {
  known = ap is_none (sym watched.since ∙ found.since);
  none = not_explained operations_law events ended w.outstanding g is.tells (2 ^ 64 - 1) f.judge all.told all.are all.keeps none;
  whole = whole_not_explained operations_law events ended w.outstanding g is.tells (2 ^ 64 - 1) f.judge all.told all.are all.keeps parts_law none;
}
  where
    f : FollowedValue
    f = found.followed

    watched : IsWatched w.shown events ended w.outstanding g f
    watched = subst (IsGranuleOf w.shown events ended w.outstanding g) found.is (is.each g)

    all : AreAllKept events ended w.outstanding g f
    all = keeps_all events ended w are_open is g f found.is found.judged

    none : IsInexplicable f.judge (final_of events g)
    none = subst (IsInexplicable f.judge) (sym (ap (λ (u : Option ℕ). cond (is_none u) f.final_word None) found.since) ∙ word_is events g f watched.since watched.final_word) found.none

-- A granule that is quiet is explained where it is not watched, and where some order explains what was told of it.
pub not_found_is : OperationsAreTold → GranulesStandAlone → (A : Type 0) (events : List Event) (w : WatchValue) → All (IsOpen w.outstanding.time) w.outstanding.requests → HasTaken events w
    → (g : ℕ) → list_any (λ p. granule_of_request p == g) w.outstanding.requests ≡ false → IfSome (granule w g) (λ f. f.unknown_since ≡ None → IsExplainable f ⊎ A) → is_known events g ≡ true
    → CanBeExplained events g ⊎ A
not_found_is operations_law granules_law A events w are_open (ended, is) g quiet said known = by_case (granule w g) refl (is.each g) said
  where
    none_since : unknown_since events g ≡ None
    none_since = by_time (unknown_since events g) known
      where
        by_time : (u : Option ℕ) → is_none u ≡ true → u ≡ None
        by_time None so = refl
        by_time (Some time) so = absurd (true≢false (sym so))

    by_case : (x : Option FollowedValue) → granule w g ≡ x → IsGranuleOf w.shown events ended w.outstanding g x → IfSome x (λ f. f.unknown_since ≡ None → IsExplainable f ⊎ A) → CanBeExplained events g ⊎ A
    by_case None here was said =
        inl (can_without granules_law operations_law events ended w.outstanding g is.tells (alone events ended w are_open g quiet ∙ was.none) was.final_word)
    by_case (Some f) here was said = elim (said since) [
      | inl can ↦
          inl (subst (λ word. (order : List ℕ) × ExplainsGranule (judged events) g (word_or_zero (openings events) g) word order) (word_is events g f was.since was.final_word)
          (can (judged events) g (word_or_zero (openings events) g)
          (is_judge operations_law events ended w.outstanding g is.tells (2 ^ 64 - 1) f.judge (all here).told (all here).are (all here).keeps)))
      | inr looked ↦ inr looked
    ]
      where
        since : f.unknown_since ≡ None
        since = was.since ∙ none_since

        all : granule w g ≡ Some f → AreAllKept events ended w.outstanding g f
        all there = keeps_all events ended w are_open is g f there (inl quiet)
