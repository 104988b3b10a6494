-- operations that are kept: one more, and fewer
use Rattle.std.proofs.Common.{◌≡◌, ℕ, ◌+◌, ◌-◌, ◌<◌, ◌≤◌, ◌⊎◌, inl, inr, Bool, true, false, List, [], ◌∷◌, ◌++◌, All, IfSome, IsTrue, Option, Some, get_or, get_or-drop, length, length-append, length-drop, take, drop, append_assoc, append-nil, refl, sym, ap, subst, ◌∙◌, arith, true≢false}
use Rattle.std.proofs.lemmas.List.{get_or_default, take-append-drop, take-append-le, take_all}
use Rattle.std.proofs.lemmas.Option.{IfSome_then}
use Rattle.std.proofs.lemmas.List.Elements.{All-append, All-cons, All-drop, All-nil, All-push, All-take, All-weaker}
use Rattle.chi_trace.specs.declared.operation.Operation.{Operation}
use Rattle.chi_trace.specs.Cuts.{cut}
use Rattle.chi_trace.specs.Explains.{at, nothing}
use Rattle.chi_trace.specs.Segments.{AreLasting}
use Rattle.chi_search.specs.Frontiers.{CanBeTold, Follows, FrontierValue, GoesAlong, MayBeTold}
use Rattle.chi_search.specs.Layers.{SomeLeads}
use Rattle.chi_search.proofs.Telling.{sorted_after, sorted_one}
use Rattle.chi_judge.specs.Judges.{CanBeKept, EndedBefore, EndedWithin, IsJudge, IsNextHorizon, JudgeValue, Keeps, LeadsBy, LeadsTo, Leaves, LiesWithin}
use Rattle.chi_judge.specs.Shown.{EndsNoLater, last_of}
use Rattle.chi_trace.proofs.AfterQuiet.{MayStandBefore}
use Rattle.chi_judge.proofs.KnownWord.{still_known}
use Rattle.chi_judge.proofs.Cutting.{EndedBy, cut-append, cut_later, cut_whole}
use Rattle.chi_judge.proofs.Last.{last_more, pairs_append, pairs_by_end, pairs_take}

-- an operation that starts later had not happened
cut_more : (time : ℕ) (told : List Operation) (op : Operation) → time < op.start → cut time (told ++ op ∷ []) ≡ cut time told
cut_more time told op later =
    cut-append time told (op ∷ []) ∙ (ap (λ (l : List Operation). cut time told ++ l)
    (cut_later time (op ∷ []) (All-cons (λ (o : Operation). time < o.start) op [] later (All-nil (λ (o : Operation). time < o.start)))) ∙ append-nil (cut time told))

-- those that had ended, those that are known, and those that start later
pub cut_parts : (time since : ℕ) (earlier ops later : List Operation) → since ≤ time + 1 → All (EndedBefore since) earlier → All (λ op. time < op.start) later
    → cut time (earlier ++ (ops ++ later)) ≡ earlier ++ cut time ops
cut_parts time since earlier ops later le ended late =
    cut-append time earlier (ops ++ later)
    ∙ (ap (λ (l : List Operation). l ++ cut time (ops ++ later)) whole
    ∙ ap (λ (l : List Operation). earlier ++ l) (cut-append time ops later
    ∙ (ap (λ (l : List Operation). cut time ops ++ l) (cut_later time later late) ∙ append-nil (cut time ops))))
  where
    whole : cut time earlier ≡ earlier
    whole = cut_whole time earlier (All-weaker (EndedBefore since) (EndedBy time) (λ op e. (e.0, omega (arith, e.1, le))) earlier ended)

-- once one operation more is kept
abbrev pub with_one : JudgeValue → Operation → Option ℕ → JudgeValue
with_one r t word = record r { kept = r.kept ++ t ∷ []; word = word; latest = t.end }

pub judge_one : (r : JudgeValue) (t : Operation) (word : Option ℕ) → IsJudge r → CanBeKept r t → IsJudge (with_one r t word)
judge_one r t word is can = record {
  next = record {
    sorted = sorted_after r.kept (t ∷ []) r.latest is.next.sorted (sorted_one t can.lasting) is.ended
        (All-cons (λ (op : Operation). r.latest ≤ op.end) t [] can.ends (All-nil (λ (op : Operation). r.latest ≤ op.end)));
    each = All-push (CanBeTold r.before) r.kept t is.next.each
        (record { lasting = can.lasting; starts = omega (arith, is.horizon_by, can.starts); ends = omega (arith, is.latest_by, can.ends) });
  };
  within = All-push LiesWithin r.kept t is.within can.within;
  ended = All-push (λ (op : Operation). op.end ≤ t.end) r.kept t
      (All-weaker (λ (op : Operation). op.end ≤ r.latest) (λ (op : Operation). op.end ≤ t.end) (λ op ends. omega (arith, ends, can.ends)) r.kept is.ended) (omega arith);
  horizon_by = is.horizon_by;
  latest_by = omega (arith, is.latest_by, can.ends);
}

module _ (words : List ℕ) (told : List Operation) (now : ℕ) (r : JudgeValue) (k : Keeps words told now r) where
  -- those that are left out start after the time
  pub late_after : (time : ℕ) → (IsTrue r.is_stopped → time < r.horizon) → All (λ op. time < op.start) k.later
  late_after time before = by_test r.is_stopped refl
    where
      by_test : (b : Bool) → r.is_stopped ≡ b → All (λ op. time < op.start) k.later
      by_test true stopped = All-weaker (λ (op : Operation). r.horizon ≤ op.start) (λ (op : Operation). time < op.start) (λ op late. omega (arith, late, before stopped)) k.later k.late
      by_test false goes = subst (All (λ (op : Operation). time < op.start)) (sym (k.goes_on goes)) (All-nil (λ (op : Operation). time < op.start))

  -- up to a time at which none is left out, and each earlier one had ended
  pub cut_kept : (time : ℕ) → r.since ≤ time + 1 → (IsTrue r.is_stopped → time < r.horizon) → cut time told ≡ k.earlier ++ cut time r.kept
  cut_kept time since before = ap (cut time) k.parts ∙ cut_parts time r.since k.earlier r.kept k.later since k.ended (late_after time before)

  -- what was told and had happened by the time before a horizon
  pub cut_before : (horizon : ℕ) → r.is_stopped ≡ false → r.horizon < horizon → cut (horizon - 1) told ≡ k.earlier ++ cut (horizon - 1) r.kept
  cut_before horizon goes below = cut_kept (horizon - 1) (omega (arith, k.since_by, below)) (λ so. absurd (true≢false (sym so ∙ goes)))

  -- the time goes on
  pub keeps_later : (next : ℕ) → now ≤ next → Keeps words told next r
  keeps_later next le = record {
    earlier = k.earlier;
    later = k.later;
    parts = k.parts;
    follows = k.follows;
    left = k.left;
    in_order = k.in_order;
    ended = k.ended;
    next = k.next;
    within = k.within;
    ends = All-weaker (EndedWithin r.since now) (EndedWithin r.since next) (λ op e. (e.0, omega (arith, e.1, le))) r.kept k.ends;
    ahead = k.ahead;
    seen = k.seen;
    late = k.late;
    goes_on = k.goes_on;
    since_by = k.since_by;
    past = omega (arith, k.past, le);
    explained = k.explained;
    known = k.known;
    stopped = k.stopped;
  }

  -- searches along other orders of those that are kept
  pub keeps_ahead : (ahead : List FrontierValue) (seen : ℕ) → seen ≤ length r.kept → All (GoesAlong words (k.earlier ++ take seen r.kept)) ahead
      → Keeps words told now (record r { ahead = ahead; seen = seen })
  keeps_ahead ahead seen some along = record {
    earlier = k.earlier;
    later = k.later;
    parts = k.parts;
    follows = k.follows;
    left = k.left;
    in_order = k.in_order;
    ended = k.ended;
    next = k.next;
    within = k.within;
    ends = k.ends;
    ahead = along;
    seen = some;
    late = k.late;
    goes_on = k.goes_on;
    since_by = k.since_by;
    past = k.past;
    explained = k.explained;
    known = k.known;
    stopped = k.stopped;
  }

  -- of all that are kept
  pub keeps_ahead_of_all : (ahead : List FrontierValue) → All (GoesAlong words (k.earlier ++ r.kept)) ahead → Keeps words told now (record r { ahead = ahead; seen = length r.kept })
  keeps_ahead_of_all ahead along =
      keeps_ahead ahead (length r.kept) (omega arith) (subst (λ (l : List Operation). All (GoesAlong words (k.earlier ++ l)) ahead) (sym (take_all (length r.kept) r.kept (omega arith))) along)

  -- once they were told all that is kept
  pub ahead_of_all : r.seen ≡ length r.kept → All (GoesAlong words (k.earlier ++ r.kept)) r.ahead
  ahead_of_all all = subst (λ (l : List Operation). All (GoesAlong words (k.earlier ++ l)) r.ahead) (ap (λ n. take n r.kept) all ∙ take_all (length r.kept) r.kept (omega arith)) k.ahead

  -- what is kept beyond those that they were told
  pub told_rest : (more : List Operation) → more ≡ drop r.seen r.kept → (k.earlier ++ take r.seen r.kept) ++ more ≡ k.earlier ++ r.kept
  told_rest more rest =
      append_assoc k.earlier (take r.seen r.kept) more
      ∙ ap (λ (l : List Operation). k.earlier ++ l) (ap (λ (l : List Operation). take r.seen r.kept ++ l) rest ∙ take-append-drop r.seen r.kept)

  pub told_kept : r.is_stopped ≡ false → told ≡ k.earlier ++ r.kept
  told_kept goes = k.parts ∙ ap (λ (l : List Operation). k.earlier ++ l) (ap (λ (l : List Operation). r.kept ++ l) (k.goes_on goes) ∙ append-nil r.kept)

  -- each ends no earlier than it starts
  pub told_lasting : r.is_stopped ≡ false → AreLasting told
  told_lasting goes =
      subst AreLasting (sym (told_kept goes))
      (All-append (λ (op : Operation). op.start ≤ op.end) k.earlier r.kept (All-weaker (EndedBefore r.since) (λ (op : Operation). op.start ≤ op.end) (λ op e. e.0) k.earlier k.ended) k.next.sorted.1)

  -- a word to which all leads, where all had happened before a horizon
  pub known_before : (horizon v : ℕ) → r.is_stopped ≡ false → r.horizon < horizon → r.latest < horizon → All (λ op. op.end ≤ r.latest) r.kept → r.word ≡ Some v
      → LeadsBy (horizon - 1) words told
  known_before horizon v goes below late ended is = (
    v,
    subst (λ (l : List Operation). SomeLeads l words v) (sym (cut_whole (horizon - 1) told all)) (subst (λ (o : Option ℕ). IfSome o (SomeLeads told words)) is (k.known goes)),
  )
    where
      all : All (EndedBy (horizon - 1)) told
      all =
          subst (All (EndedBy (horizon - 1))) (sym (told_kept goes))
          (All-append (EndedBy (horizon - 1)) k.earlier r.kept
          (All-weaker (EndedBefore r.since) (EndedBy (horizon - 1)) (λ op e. (e.0, omega (arith, e.1, k.since_by, below))) k.earlier k.ended)
          (λ i d inside. (k.next.sorted.1 i d inside, let last = ended i d inside in omega (arith, last, late))))

  -- one operation more was told
  module _ (t : Operation) (later : now ≤ t.end) (starts : r.horizon ≤ t.start) where
    still_explained : (time : ℕ) → time + 1 ≡ r.since → (v : ℕ) × SomeLeads (cut time (told ++ t ∷ [])) words v
    still_explained time is =
        let led = k.explained time is in
        (led.0, subst (λ (l : List Operation). SomeLeads l words led.0) (sym (cut_more time told t (omega (arith, is, k.since_by, starts)))) led.1)

    -- none that was told before ended later
    may_before : r.is_stopped ≡ false → t.start ≤ t.end → MayStandBefore told (t ∷ [])
    may_before goes lasting =
        subst (λ (l : List Operation). MayStandBefore l (t ∷ [])) (sym (told_kept goes))
        (All-append Before k.earlier r.kept
        (All-weaker (EndedBefore r.since) Before (λ op e. alone op (omega (arith, e.0, e.1, k.since_by, starts, lasting))) k.earlier k.ended)
        (λ i d below. alone (get_or r.kept i d) (let first = k.next.sorted.1 i d below in let last = (k.ends i d below).1 in omega (arith, first, last, later))))
      where
        Before : Operation → Type 0
        Before op = All (λ (other : Operation). op.start ≤ other.end) (t ∷ [])

        alone : (op : Operation) → op.start ≤ t.end → Before op
        alone op le = All-cons (λ (other : Operation). op.start ≤ other.end) t [] le (All-nil (λ (other : Operation). op.start ≤ other.end))

    pub keeps_one : (word : Option ℕ) → IfSome word (Leaves r.word t) → r.is_stopped ≡ false → t.start ≤ t.end → IsJudge (with_one r t word) → Keeps words (told ++ t ∷ []) t.end (with_one r t word)
    keeps_one word leaves goes lasting is = record {
      earlier = k.earlier;
      later = [];
      parts = ap (λ (l : List Operation). l ++ t ∷ []) (told_kept goes) ∙ (append_assoc k.earlier r.kept (t ∷ [])
          ∙ ap (λ (l : List Operation). k.earlier ++ l) (sym (append-nil (r.kept ++ t ∷ []))));
      follows = k.follows;
      left = k.left;
      in_order = k.in_order;
      ended = k.ended;
      next = is.next;
      within = is.within;
      ends =
          All-push (EndedWithin r.since t.end) r.kept t
          (All-weaker (EndedWithin r.since now) (EndedWithin r.since t.end) (λ op e. (e.0, omega (arith, e.1, later))) r.kept k.ends)
          (omega (arith, k.since_by, starts, lasting), omega arith);
      ahead = subst (λ (l : List Operation). All (GoesAlong words (k.earlier ++ l)) r.ahead) (sym (take-append-le r.seen r.kept (t ∷ []) k.seen)) k.ahead;
      seen = omega (arith, k.seen, length-append r.kept (t ∷ []));
      late = All-nil (λ (op : Operation). r.horizon ≤ op.start);
      goes_on = λ is. refl;
      since_by = k.since_by;
      past = omega (arith, k.past, later);
      explained = still_explained;
      known = λ _. still_known words told t r.word word (may_before goes lasting) (k.known goes) leaves;
      stopped = λ is. absurd (true≢false (sym is ∙ goes));
    }

    pub keeps_stopped : r.is_stopped ≡ true → Keeps words (told ++ t ∷ []) t.end r
    keeps_stopped is = record {
      earlier = k.earlier;
      later = k.later ++ t ∷ [];
      parts = ap (λ (l : List Operation). l ++ t ∷ []) k.parts ∙ (append_assoc k.earlier (r.kept ++ k.later) (t ∷ [])
          ∙ ap (λ (l : List Operation). k.earlier ++ l) (append_assoc r.kept k.later (t ∷ [])));
      follows = k.follows;
      left = k.left;
      in_order = k.in_order;
      ended = k.ended;
      next = k.next;
      within = k.within;
      ends = All-weaker (EndedWithin r.since now) (EndedWithin r.since t.end) (λ op e. (e.0, omega (arith, e.1, later))) r.kept k.ends;
      ahead = k.ahead;
      seen = k.seen;
      late = All-push (λ (op : Operation). r.horizon ≤ op.start) k.later t k.late starts;
      goes_on = λ goes. absurd (true≢false (sym is ∙ goes));
      since_by = k.since_by;
      past = omega (arith, k.past, later);
      explained = still_explained;
      known = λ goes. absurd (true≢false (sym is ∙ goes));
      stopped = λ so.
          let none = k.stopped so in
          (none.0, none.1, λ v leads. none.2 v (subst (λ (l : List Operation). SomeLeads l words v) (cut_more none.0 told t (omega (arith, none.1, starts))) leads));
    }

  -- no order explains what was told up to the time before a later horizon
  pub keeps_none : (horizon : ℕ) → r.is_stopped ≡ false → r.horizon < horizon → ((v : ℕ) → SomeLeads (cut (horizon - 1) told) words v → ⊥)
      → Keeps words told now (record r { horizon = horizon; is_stopped = true })
  keeps_none horizon goes below none = record {
    earlier = k.earlier;
    later = [];
    parts = told_kept goes ∙ ap (λ (l : List Operation). k.earlier ++ l) (sym (append-nil r.kept));
    follows = k.follows;
    left = k.left;
    in_order = k.in_order;
    ended = k.ended;
    next = k.next;
    within = k.within;
    ends = k.ends;
    ahead = k.ahead;
    seen = k.seen;
    late = All-nil (λ (op : Operation). horizon ≤ op.start);
    goes_on = λ is. refl;
    since_by = omega (arith, k.since_by, below);
    past = k.past;
    explained = k.explained;
    known = λ goes. absurd (true≢false goes);
    stopped = λ is. (horizon - 1, omega (arith, below), none);
  }

  -- a word to which all leads, once the first so many are left to a search
  pub known_left : (count : ℕ) (before : FrontierValue) (word : Option ℕ) (are_all : Bool) → r.is_stopped ≡ false → Follows words (k.earlier ++ take count r.kept) before
      → (IsTrue are_all → drop count r.kept ≡ []) → IfSome word (λ v. (r.word ≡ Some v) ⊎ (IsTrue are_all × LeadsTo before v)) → IfSome word (SomeLeads told words)
  known_left count before word are_all goes follows all known = IfSome_then word known (λ v from. elim from [
    | inl same ↦ subst (λ (o : Option ℕ). IfSome o (SomeLeads told words)) same (k.known goes)
    | inr left ↦ subst (λ (l : List Operation). SomeLeads l words v) (sym (whole (all left.0))) (left.1 words (k.earlier ++ take count r.kept) follows)
  ])
    where
      whole : drop count r.kept ≡ [] → told ≡ k.earlier ++ take count r.kept
      whole none =
          told_kept goes
          ∙ ap (λ (l : List Operation). k.earlier ++ l) (sym (take-append-drop count r.kept)
          ∙ (ap (λ (l : List Operation). take count r.kept ++ l) none ∙ append-nil (take count r.kept)))

  -- those that ended before a horizon are left to the search before the others
  pub keeps_fewer : (horizon count : ℕ) (before : FrontierValue) (left : List Operation) (ahead : List FrontierValue) (seen : ℕ) (word : Option ℕ) → IfSome word (SomeLeads told words) → left ≡ last_of r.shown (r.left ++ take count r.kept) → IsNextHorizon words told now r horizon
      → All (λ op. op.end < horizon) (take count r.kept) → (count < length r.kept → horizon ≤ (at r.kept count).end)
      → Follows words (k.earlier ++ take count r.kept) before → MayBeTold before (drop count r.kept)
      → seen ≤ length (drop count r.kept) → All (GoesAlong words ((k.earlier ++ take count r.kept) ++ take seen (drop count r.kept))) ahead
      → Keeps words told now (record { before = before; left = left; shown = r.shown; kept = drop count r.kept; ahead = ahead; seen = seen; word = word; since = horizon; horizon = horizon; latest = r.latest; is_stopped = r.is_stopped })
  keeps_fewer horizon count before left ahead seen word known left_is is ended first follows next some along = record {
    earlier = k.earlier ++ take count ops;
    later = [];
    parts = told_kept is.goes_on ∙ (ap (λ (l : List Operation). k.earlier ++ l) (sym (take-append-drop count ops)) ∙ (sym (append_assoc k.earlier (take count ops) (drop count ops))
        ∙ ap (λ (l : List Operation). (k.earlier ++ take count ops) ++ l) (sym (append-nil (drop count r.kept)))));
    follows = follows;
    left = left_is ∙ (ap (λ (a : List Operation). last_of r.shown (a ++ take count ops)) k.left ∙ last_more r.shown k.earlier (take count ops));
    in_order = pairs_append k.earlier (take count ops) k.in_order (pairs_take count ops (pairs_by_end ops k.next.sorted.0))
        (All-weaker (EndedBefore r.since) (λ (op : Operation). All (EndsNoLater op) (take count ops))
        (λ op e. All-take (EndsNoLater op) count ops (All-weaker (EndedWithin r.since now) (EndsNoLater op) (λ other from. omega (arith, e.1, from.0)) ops k.ends)) k.earlier k.ended);
    ended = All-append (EndedBefore horizon) k.earlier (take count ops)
        (All-weaker (EndedBefore r.since) (EndedBefore horizon) (λ op e. (e.0, omega (arith, e.1, k.since_by, is.later))) k.earlier k.ended)
        (λ i d below. (All-take (λ (op : Operation). op.start ≤ op.end) count ops k.next.sorted.1 i d below, ended i d below));
    next = next;
    within = All-drop LiesWithin count ops k.within;
    ends = λ i d below. (late i d below, (All-drop (EndedWithin r.since now) count ops k.ends i d below).1);
    ahead = along;
    seen = some;
    late = All-nil (λ (op : Operation). horizon ≤ op.start);
    goes_on = λ goes. refl;
    since_by = omega arith;
    past = is.past;
    explained = is.explained;
    known = λ _. known;
    stopped = λ so. absurd (true≢false (sym so ∙ is.goes_on));
  }
    where
      ops : List Operation
      ops = r.kept

      late : (i : ℕ) (d : Operation) → i < length (drop count ops) → horizon ≤ (get_or (drop count ops) i d).end
      late i d below =
          let place : count + i < length ops = omega (arith, below, length-drop count ops) in
          let from : horizon ≤ (at ops count).end = first (omega (arith, place)) in
          let sorted : (at ops count).end ≤ (at ops (count + i)).end = k.next.sorted.0 count (count + i) (omega arith) place in
          let same : get_or (drop count ops) i d ≡ get_or ops (count + i) d = get_or-drop count ops i d in
          let default : get_or ops (count + i) d ≡ at ops (count + i) = get_or_default ops (count + i) d nothing place in
          let end : (get_or (drop count ops) i d).end ≡ (at ops (count + i)).end = ap (λ (o : Operation). o.end) (same ∙ default) in
          omega (arith, from, sorted, end)
