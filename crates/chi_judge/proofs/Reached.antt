-- what the operations that were told say of a granule of a trace, and up to which times they are explained
use Rattle.std.proofs.Common.{◌≡◌, ℕ, ◌+◌, ◌-◌, ◌<◌, ◌≤◌, ◌==◌, ◌&&◌, nat_le, Bool, true, false, List, [], ◌∷◌, ◌++◌, All, ◌↔◌, filter, length, take, append-nil, refl, sym, ap, subst, ◌∙◌, ⊎_elim, arith, true≢false, ltb-true}
use Rattle.std.specs.Prelude.{IsPermutation}
use Rattle.std.specs.List.{Contains}
use Rattle.std.proofs.lemmas.Bool.{and_from, and_parts, cases_lt, le-leb, lt-leb}
use Rattle.std.proofs.lemmas.List.{get_or-take, get_or_default, length-take-le}
use Rattle.std.proofs.lemmas.List.Elements.{All-append, All-contains, All-nil, All-weaker, filter-append}
use Rattle.std.proofs.lemmas.List.Sorted.{All-permutation, Contains-permutation, IsPermutation-sym, IsPermutation-trans}
use Rattle.chi_trace.specs.declared.operation.Operation.{Operation}
use Rattle.chi_trace.specs.AtPlaces.{GranulesStandAlone, is_in}
use Rattle.chi_trace.specs.Cuts.{cut}
use Rattle.chi_trace.specs.Explains.{at, is_answered, is_place, nothing}
use Rattle.chi_trace.specs.Granules.{granule_of, is_of}
use Rattle.chi_trace.proofs.Orders.{observed_at}
use Rattle.chi_search.specs.Frontiers.{Follows, FrontierValue}
use Rattle.chi_search.specs.Layers.{SomeLeads}
use Rattle.chi_trace.proofs.Later.{later_explains, none_needed}
use Rattle.chi_judge.specs.Reaches.{CanLeave, IsExplained, IsJudgeOf, is_open_at}
use Rattle.chi_judge.specs.Judges.{EndedBefore, GoesNowhere, GoesOn, Keeps, JudgeValue}
use Rattle.chi_judge.specs.Searches.{AreSeen, AreWordsBy, IsSeen, is_during}
use Rattle.chi_judge.proofs.Cutting.{EndedBy, cut_whole}
use Rattle.chi_judge.proofs.Keeping.{cut_kept, late_after}
use Rattle.chi_judge.proofs.Leading.{explained_from, leads_from, leaves_from, leaves_some, moved_cut}
use Rattle.chi_search.proofs.Sets.{Contains-filter, passed}
use Rattle.chi_judge.proofs.Lists.{IsPermutation-filter, filter_both, filter_none}

-- what holds at each place
by_place : (P : Operation → Type 0) (ops : List Operation) → ((i : ℕ) → i < length ops → P (at ops i)) → All P ops
by_place P ops each i d below = subst P (sym (get_or_default ops i d nothing below)) (each i below)

-- those that end before the horizon
pub seen_before : (r : JudgeValue) (ops : List Operation) (count : ℕ) → count ≤ length ops → All (λ op. op.end < r.horizon) (take count ops) → AreSeen r ops count
seen_before r ops count within before i below stopped =
    subst (λ (o : Operation). o.end < r.horizon) (get_or-take count ops i nothing below) (before i nothing (omega (arith, below, within, length-take-le count ops within)))

module _ (law : GranulesStandAlone) (trace : List Operation) (g w : ℕ) (r : JudgeValue) (is : IsJudgeOf trace g w r) where
  abbrev k : Keeps (w ∷ []) is.told is.now r
  k = is.keeps

  abbrev ops : List Operation
  ops = r.kept

  -- the words that are left up to a time, by the operations that are kept
  pub words_seen : (time : ℕ) → IsSeen r time → (v : ℕ)
      → (SomeLeads (k.earlier ++ cut time ops) (w ∷ []) v → CanLeave (cut time trace) g w v) × (CanLeave (cut time trace) g w v → SomeLeads (k.earlier ++ cut time ops) (w ∷ []) v)
  words_seen time seen v = (
    λ leads. leaves_from law (cut time trace) (cut time is.told) g w v moved (subst (λ (l : List Operation). SomeLeads l (w ∷ []) v) (sym same) leads),
    λ can. subst (λ (l : List Operation). SomeLeads l (w ∷ []) v) same (leads_from law (cut time trace) (cut time is.told) g w v moved can),
  )
    where
      moved : IsPermutation (filter (is_in g) (cut time trace)) (cut time is.told)
      moved = moved_cut time g trace is.told is.moved

      same : cut time is.told ≡ k.earlier ++ cut time ops
      same = cut_kept (w ∷ []) is.told is.now r k time seen.since seen.before

  told_whole : r.is_stopped ≡ false → is.told ≡ k.earlier ++ ops
  told_whole goes = k.parts ∙ ap (λ (l : List Operation). k.earlier ++ l) (ap (λ (l : List Operation). ops ++ l) (k.goes_on goes) ∙ append-nil ops)

  pub words_whole : r.is_stopped ≡ false → (v : ℕ)
      → (SomeLeads (k.earlier ++ ops) (w ∷ []) v → CanLeave trace g w v) × (CanLeave trace g w v → SomeLeads (k.earlier ++ ops) (w ∷ []) v)
  words_whole goes v = (
    λ leads. leaves_from law trace is.told g w v is.moved (subst (λ (l : List Operation). SomeLeads l (w ∷ []) v) (sym (told_whole goes)) leads),
    λ can. subst (λ (l : List Operation). SomeLeads l (w ∷ []) v) (told_whole goes) (leads_from law trace is.told g w v is.moved can),
  )

  -- up to a time at which the search goes on some order explains them, and where it goes nowhere none does
  pub explained_by : (time : ℕ) → IsSeen r time → GoesOn r.before (cut time ops) → IsExplained time trace g w
  explained_by time seen on =
      let led = on (w ∷ []) k.earlier k.follows in
      explained_from time trace g w led.0 ((words_seen time seen led.0).0 led.1)

  pub unexplained_by : (time : ℕ) → IsSeen r time → GoesNowhere r.before (cut time ops) → IsExplained time trace g w → ⊥
  unexplained_by time seen none explained =
      let left = leaves_some time trace g w explained in
      none (w ∷ []) k.earlier k.follows left.0 ((words_seen time seen left.0).1 left.1)

  -- the same of all of them
  pub leaves_all : r.is_stopped ≡ false → GoesOn r.before ops → (v : ℕ) × CanLeave trace g w v
  leaves_all goes on =
      let led = on (w ∷ []) k.earlier k.follows in
      (led.0, (words_whole goes led.0).0 led.1)

  -- what holds of each that was told holds of each operation of the granule
  each_told : (P : Operation → Type 0) → All P is.told → (i : ℕ) → is_of trace g i ≡ true → P (at trace i)
  each_told P all i own =
      let parts = and_parts (is_place trace i) (granule_of (at trace i) == g) own in
      passed (is_in g) P trace (All-permutation P is.told (filter (is_in g) trace) (IsPermutation-sym (filter (is_in g) trace) is.told is.moved) all)
      i nothing (ltb-true i (length trace) parts.0) parts.1

  lasting : (i : ℕ) → is_of trace g i ≡ true → (at trace i).start ≤ (at trace i).end
  lasting i own = (observed_at trace i is.traced (and_parts (is_place trace i) (granule_of (at trace i) == g) own).0).lasting

  all_parts : (P : Operation → Type 0) → All P k.earlier → All P ops → All P k.later → All P is.told
  all_parts P first middle last = subst (All P) (sym k.parts) (All-append P k.earlier (ops ++ k.later) first (All-append P ops k.later middle last))

  -- up to the time before those that are kept some order explains them
  pub explained_since : (time : ℕ) → time + 1 ≡ r.since → IsExplained time trace g w
  explained_since time next =
      let led = k.explained time next in
      explained_from time trace g w led.0 (leaves_from law (cut time trace) (cut time is.told) g w led.0 (moved_cut time g trace is.told is.moved) led.1)

  -- none is answered between two times
  goes_on : (early late : ℕ) → early ≤ late → IsSeen r early → IsSeen r late → All (λ op. is_answered op ≡ true → early < op.end → late < op.end) ops
      → IsExplained early trace g w → IsExplained late trace g w
  goes_on early late le first second none (order, explains) =
      (order, later_explains trace g w early late order is.traced le (λ i own. each_told Lasts all i own (lasting i own)) explains)
    where
      Lasts : Operation → Type 0
      Lasts op = op.start ≤ op.end → is_answered op ≡ true → early < op.end → late < op.end

      all : All Lasts is.told
      all = all_parts Lasts
          (All-weaker (EndedBefore r.since) Lasts (λ op e long seen after. absurd (omega (arith, e.1, after, first.since))) k.earlier k.ended)
          (All-weaker (λ (op : Operation). is_answered op ≡ true → early < op.end → late < op.end) Lasts (λ op n long seen after. n seen after) ops none)
          (All-weaker (λ (op : Operation). late < op.start) Lasts (λ op n long seen after. omega (arith, n, long)) k.later (late_after (w ∷ []) is.told is.now r k late second.before))

  -- none is answered by a time
  pub begins : (time : ℕ) → IsSeen r time → All (λ op. is_answered op ≡ true → time < op.end) ops → IsExplained time trace g w
  begins time seen none = ⊎_elim some_before (λ zero_since. ([], none_needed trace g w time is.traced (λ i own. each_told Lasts (all zero_since) i own (lasting i own)))) (cases_lt 0 r.since)
    where
      Lasts : Operation → Type 0
      Lasts op = op.start ≤ op.end → is_answered op ≡ true → time < op.end

      all : r.since ≤ 0 → All Lasts is.told
      all zero_since = all_parts Lasts
          (All-weaker (EndedBefore r.since) Lasts (λ op e long answered. absurd (omega (arith, e.1, zero_since))) k.earlier k.ended)
          (All-weaker (λ (op : Operation). is_answered op ≡ true → time < op.end) Lasts (λ op n long answered. n answered) ops none)
          (All-weaker (λ (op : Operation). time < op.start) Lasts (λ op n long answered. omega (arith, n, long)) k.later (late_after (w ∷ []) is.told is.now r k time seen.before))

      some_before : 0 < r.since → IsExplained time trace g w
      some_before some =
          let before = r.since - 1 in
          goes_on before time (omega (arith, seen.since)) (record { since = omega (arith, some); before = λ stopped. omega (arith, some, seen.since, seen.before stopped) }) seen
          (All-weaker (λ (op : Operation). is_answered op ≡ true → time < op.end) (λ (op : Operation). is_answered op ≡ true → before < op.end → time < op.end) (λ op n answered after. n answered) ops none)
          (explained_since before (omega (arith, some)))

  -- no order explains them up to the end of the last of some, where none does up to a later time and no other ends by then
  last_of : (late : ℕ) → IsSeen r late → (IsExplained late trace g w → ⊥) → (count : ℕ) → count ≤ length ops
      → ((i : ℕ) → count ≤ i → i < length ops → late < (at ops i).end) → ((i : ℕ) → i < count → (at ops i).end ≤ late)
      → (0 < count) × (IsExplained (at ops (count - 1)).end trace g w → ⊥)
  last_of late seen unexplained count within after by = (⊎_elim (λ some. some) (λ zero_count. absurd (unexplained (nothing_yet zero_count))) (cases_lt 0 count), not_then)
    where
      nothing_yet : count ≤ 0 → IsExplained late trace g w
      nothing_yet zero_count = begins late seen (by_place (λ (op : Operation). is_answered op ≡ true → late < op.end) ops (λ i below answered. after i (omega (arith, zero_count)) below))

      not_then : IsExplained (at ops (count - 1)).end trace g w → ⊥
      not_then explained = ⊎_elim some_there (λ zero_count. unexplained (nothing_yet zero_count)) (cases_lt 0 count)
        where
          some_there : 0 < count → ⊥
          some_there some =
              let place : count - 1 < length ops = omega (arith, some, within) in
              let ended : (at ops (count - 1)).end ≤ late = by (count - 1) (omega (arith, some)) in
              let from : r.since ≤ (at ops (count - 1)).end = (k.ends (count - 1) nothing place).0 in
              unexplained (goes_on (at ops (count - 1)).end late ended
              (record { since = omega (arith, from); before = λ stopped. omega (arith, ended, seen.before stopped) }) seen
              (by_place (λ (op : Operation). is_answered op ≡ true → (at ops (count - 1)).end < op.end → late < op.end) ops
              (λ i below answered later. ⊎_elim
              (λ first. let sorted = k.next.sorted.0 i (count - 1) (omega (arith, first)) place in absurd (omega (arith, sorted, later)))
              (λ rest. after i rest below)
              (cases_lt i count)))
              explained)

  pub stopped_last : r.is_stopped ≡ true → (count : ℕ) → count ≤ length ops → All (λ op. op.end < r.horizon) (take count ops) → (count < length ops → r.horizon ≤ (at ops count).end)
      → (0 < count) × (IsExplained (at ops (count - 1)).end trace g w → ⊥)
  stopped_last stopped count within before first =
      last_of none.0 (record { since = omega (arith, none.1, k.since_by); before = λ so. omega (arith, none.1) }) unexplained count within
      (λ i from below. let sorted = k.next.sorted.0 count i from below in let high = first (omega (arith, from, below)) in omega (arith, none.1, sorted, high))
      (λ i below. let ended = seen_before r ops count within before i below stopped in omega (arith, none.1, ended))
    where
      none : (time : ℕ) × (time + 1 ≡ r.horizon) × ((v : ℕ) → SomeLeads (cut time is.told) (w ∷ []) v → ⊥)
      none = k.stopped stopped

      unexplained : IsExplained none.0 trace g w → ⊥
      unexplained explained =
          let left = leaves_some none.0 trace g w explained in
          none.2 left.0 (leads_from law (cut none.0 trace) (cut none.0 is.told) g w left.0 (moved_cut none.0 g trace is.told is.moved) left.1)

  pub whole_last : r.is_stopped ≡ false → ((v : ℕ) → CanLeave trace g w v → ⊥) → (0 < length ops) × (IsExplained (at ops (length ops - 1)).end trace g w → ⊥)
  whole_last goes none =
      last_of is.now (record { since = k.past; before = λ stopped. absurd (true≢false (sym stopped ∙ goes)) }) unexplained (length ops) (omega arith)
      (λ i from below. absurd (omega (arith, from, below)))
      (λ i below. (k.ends i nothing below).1)
    where
      ended : All (EndedBy is.now) is.told
      ended = all_parts (EndedBy is.now)
          (All-weaker (EndedBefore r.since) (EndedBy is.now) (λ op e. (e.0, omega (arith, e.1, k.past))) k.earlier k.ended)
          (λ i d below. (k.next.sorted.1 i d below, (k.ends i d below).1))
          (subst (All (EndedBy is.now)) (sym (k.goes_on goes)) (All-nil (EndedBy is.now)))

      unexplained : IsExplained is.now trace g w → ⊥
      unexplained explained =
          let left = leaves_some is.now trace g w explained in
          none left.0 (leaves_from law trace is.told g w left.0 is.moved
          (subst (λ (l : List Operation). SomeLeads l (w ∷ []) left.0) (cut_whole is.now is.told ended)
          (leads_from law (cut is.now trace) (cut is.now is.told) g w left.0 (moved_cut is.now g trace is.told is.moved) left.1)))

  -- an end up to which those that are kept are all
  pub end_seen : (count place : ℕ) → AreSeen r ops count → place < count → place < length ops → IsSeen r (at ops place).end
  end_seen count place seen first within =
      let from : r.since ≤ (at ops place).end = (k.ends place nothing within).0 in
      record { since = omega (arith, from); before = seen place first }

  module _ (place : ℕ) (within : place < length ops) (seen : AreSeen r ops (place + 1)) where
    pub earlier_seen : (earlier : ℕ) → earlier + 1 ≡ (at ops place).end → IsSeen r earlier
    earlier_seen earlier next =
        let from : r.since ≤ (at ops place).end = (k.ends place nothing within).0 in
        record { since = omega (arith, from, next); before = λ stopped. let before = seen place (omega arith) stopped in omega (arith, before, next) }

    -- up to the time before the first end up to which no order explains them, some order does
    pub explained_before : ((i : ℕ) → i + 1 ≡ place → IsExplained (at ops i).end trace g w) → (IsExplained (at ops place).end trace g w → ⊥)
        → (earlier : ℕ) → earlier + 1 ≡ (at ops place).end → IsExplained earlier trace g w
    explained_before first unexplained earlier next = ⊎_elim some_first none_first (cases_lt 0 place)
      where
        none_first : place ≤ 0 → IsExplained earlier trace g w
        none_first zero_place = begins earlier (earlier_seen earlier next)
            (by_place (λ (op : Operation). is_answered op ≡ true → earlier < op.end) ops
            (λ i below answered. let sorted = k.next.sorted.0 place i (omega (arith, zero_place)) below in omega (arith, sorted, next)))

        some_first : 0 < place → IsExplained earlier trace g w
        some_first some = ⊎_elim together apart (cases_lt earlier (at ops (place - 1)).end)
          where
            explained : IsExplained (at ops (place - 1)).end trace g w
            explained = first (place - 1) (omega (arith, some))

            sorted : (at ops (place - 1)).end ≤ (at ops place).end
            sorted = k.next.sorted.0 (place - 1) place (omega arith) within

            from : r.since ≤ (at ops (place - 1)).end
            from = (k.ends (place - 1) nothing (omega (arith, within))).0

            together : earlier < (at ops (place - 1)).end → IsExplained earlier trace g w
            together above =
                let same : (at ops (place - 1)).end ≡ (at ops place).end = omega (arith, above, next, sorted) in
                absurd (unexplained (subst (λ (t : ℕ). IsExplained t trace g w) same explained))

            apart : (at ops (place - 1)).end ≤ earlier → IsExplained earlier trace g w
            apart le = goes_on (at ops (place - 1)).end earlier le
                (record { since = omega (arith, from); before = seen (place - 1) (omega arith) }) (earlier_seen earlier next)
                (by_place (λ (op : Operation). is_answered op ≡ true → (at ops (place - 1)).end < op.end → earlier < op.end) ops
                (λ i below answered after. ⊎_elim
                (λ less. let order = k.next.sorted.0 i (place - 1) (omega (arith, less)) (omega (arith, within)) in absurd (omega (arith, order, after)))
                (λ more. let order = k.next.sorted.0 place i more below in omega (arith, order, next))
                (cases_lt i place)))
                explained

    -- one of them was answered then
    pub some_answered : (IsExplained (at ops place).end trace g w → ⊥) → ((earlier : ℕ) → earlier + 1 ≡ (at ops place).end → IsExplained earlier trace g w)
        → All (λ op. is_answered op ≡ true → op.end ≡ (at ops place).end → ⊥) ops → ⊥
    some_answered unexplained before none = unexplained (⊎_elim some_time no_time (cases_lt 0 time))
      where
        time : ℕ
        time = (at ops place).end

        here : IsSeen r time
        here = end_seen (place + 1) place seen (omega arith) within

        apart : (n : ℕ) → time ≤ n → (n ≡ time → ⊥) → time < n
        apart n le differs = ⊎_elim (λ less. less) (λ more. absurd (differs (omega (arith, le, more)))) (cases_lt time n)

        no_time : time ≤ 0 → IsExplained time trace g w
        no_time zero_time = begins time here
            (All-weaker (λ (op : Operation). is_answered op ≡ true → op.end ≡ time → ⊥) (λ (op : Operation). is_answered op ≡ true → time < op.end)
            (λ op n answered. apart op.end (omega (arith, zero_time)) (n answered)) ops none)

        some_time : 0 < time → IsExplained time trace g w
        some_time some = goes_on (time - 1) time (omega arith) (earlier_seen (time - 1) (omega (arith, some))) here
            (All-weaker (λ (op : Operation). is_answered op ≡ true → op.end ≡ time → ⊥) (λ (op : Operation). is_answered op ≡ true → time - 1 < op.end → time < op.end)
            (λ op n answered after. apart op.end (omega (arith, after)) (n answered)) ops none)
            (before (time - 1) (omega (arith, some)))

    -- those that are kept are all that were open then
    pub open_then : (during : List Operation) → IsPermutation (filter (is_during (at ops place).end) r.kept) during
        → IsPermutation (filter (is_open_at g (at ops place).end) trace) during
    open_then during moved =
        subst (λ (l : List Operation). IsPermutation l during) (sym (filter_both (is_in g) (is_during time) trace))
        (IsPermutation-trans (filter (is_during time) (filter (is_in g) trace)) (filter (is_during time) is.told) during
        (IsPermutation-filter (is_during time) (filter (is_in g) trace) is.told is.moved)
        (subst (λ (l : List Operation). IsPermutation l during) (sym same)
        moved))
      where
        time : ℕ
        time = (at ops place).end

        here : IsSeen r time
        here = end_seen (place + 1) place seen (omega arith) within

        ended : (op : Operation) → op.end < time → is_during time op ≡ false
        ended op is_over = by_test (nat_le op.start time) (lt-leb time op.end is_over)
          where
            by_test : (b : Bool) → nat_le time op.end ≡ false → (b && nat_le time op.end) ≡ false
            by_test true over = over
            by_test false over = refl

        to_come : (op : Operation) → time < op.start → is_during time op ≡ false
        to_come op after = ap (λ (b : Bool). b && nat_le time op.end) (lt-leb op.start time after)

        from : r.since ≤ time
        from = (k.ends place nothing within).0

        none_earlier : filter (is_during time) k.earlier ≡ []
        none_earlier = filter_none (is_during time) k.earlier
            (All-weaker (EndedBefore r.since) (λ (op : Operation). is_during time op ≡ false) (λ op e. ended op (omega (arith, e.1, from))) k.earlier k.ended)

        none_later : filter (is_during time) k.later ≡ []
        none_later = filter_none (is_during time) k.later
            (All-weaker (λ (op : Operation). time < op.start) (λ (op : Operation). is_during time op ≡ false) to_come k.later (late_after (w ∷ []) is.told is.now r k time here.before))

        same : filter (is_during time) is.told ≡ filter (is_during time) r.kept
        same =
            ap (filter (is_during time)) k.parts
            ∙ (filter-append (is_during time) k.earlier (ops ++ k.later)
            ∙ (ap (λ (l : List Operation). l ++ filter (is_during time) (ops ++ k.later)) none_earlier
            ∙ (filter-append (is_during time) ops k.later
            ∙ (ap (λ (l : List Operation). filter (is_during time) ops ++ l) none_later
            ∙ append-nil (filter (is_during time) ops)))))

    -- one that ended then is one of them
    pub open_has : (during : List Operation) → IsPermutation (filter (is_during (at ops place).end) r.kept) during
        → (t : Operation) → Contains r.kept t → t.end ≡ (at ops place).end → Contains during t
    open_has during moved t there ends =
        Contains-permutation (filter (is_during (at ops place).end) r.kept) during t moved
        (Contains-filter (is_during (at ops place).end) r.kept t there
        (and_from (nat_le t.start (at ops place).end) (nat_le (at ops place).end t.end)
        (le-leb t.start (at ops place).end (omega (arith, long, ends))) (le-leb (at ops place).end t.end (omega (arith, ends)))))
      where
        long : t.start ≤ t.end
        long = All-contains (λ (s : Operation). s.start ≤ s.end) r.kept t (λ i d below. lasts i d below) there
          where
            lasts : All (λ (s : Operation). s.start ≤ s.end) r.kept
            lasts = k.next.sorted.1

-- the words that a search found, of the operations before those that are kept and of these
pub words_by_time : GranulesStandAlone → (r : JudgeValue) (before : FrontierValue) (more : List Operation) (time : ℕ) (each : List ℕ) → before ≡ r.before → more ≡ r.kept
    → ((words : List ℕ) (told : List Operation) → Follows words told before → (v : ℕ) → Contains each v ↔ SomeLeads (told ++ cut time more) words v)
    → AreWordsBy r time each
words_by_time law r before more time each same ops_is found seen trace g w is v =
    let each_leads = found (w ∷ []) is.keeps.earlier (subst (Follows (w ∷ []) is.keeps.earlier) (sym same) is.keeps.follows) v in
    let leads = subst (λ (l : List Operation). Contains each v ↔ SomeLeads (is.keeps.earlier ++ cut time l) (w ∷ []) v) ops_is each_leads in
    let leaves = words_seen law trace g w r is time seen v in
    (λ there. leaves.0 (leads.0 there), λ can. leads.1 (leaves.1 can))

pub words_of_all : GranulesStandAlone → (r : JudgeValue) (before : FrontierValue) (more : List Operation) (each : List ℕ) → before ≡ r.before → more ≡ r.kept
    → ((words : List ℕ) (told : List Operation) → Follows words told before → (v : ℕ) → Contains each v ↔ SomeLeads (told ++ more) words v)
    → r.is_stopped ≡ false → (trace : List Operation) (g w : ℕ) → IsJudgeOf trace g w r → (v : ℕ) → Contains each v ↔ CanLeave trace g w v
words_of_all law r before more each same ops_is found goes trace g w is v =
    let each_leads = found (w ∷ []) is.keeps.earlier (subst (Follows (w ∷ []) is.keeps.earlier) (sym same) is.keeps.follows) v in
    let leads = subst (λ (l : List Operation). Contains each v ↔ SomeLeads (is.keeps.earlier ++ l) (w ∷ []) v) ops_is each_leads in
    let leaves = words_whole law trace g w r is goes v in
    (λ there. leaves.0 (leads.0 there), λ can. leads.1 (leaves.1 can))
