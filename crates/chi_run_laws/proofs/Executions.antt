-- requests that are executed one after another, as operations of a trace
use Rattle.std.proofs.Common.{◌≡◌, ℕ, zero, suc, ◌+◌, ◌-◌, ◌<◌, ◌≤◌, ◌&&◌, Bool, true, false, List, [], ◌∷◌, ◌++◌, All, append_assoc, length, length-append, Option, None, Some, IfSome, Result, Ok, Err, refl, sym, ap, subst, ◌∙◌, arith}
use Rattle.std.proofs.Math.Seq.{get_or-append_seam}
use Rattle.std.proofs.lemmas.Grind.{common_steps}
use Rattle.std.proofs.lemmas.List.{get_or-append-add}
use Rattle.std.specs.List.{cons_option, enumerate_from, filter_map, range_with_len}
use Rattle.std.specs.Prelude.{option_map}
use Rattle.chi_fields.specs.Access.{Access}
use Rattle.chi_fields.specs.Extent.{Extent}
use Rattle.chi_fields.specs.Opcode.{kind_of}
use Rattle.chi_fields.specs.Refusal.{access_as, access_of, decision, decision_as, decision_of}
use Rattle.chi_fields.specs.declared.kind.Kind.{Kind}
use Rattle.chi_fields.specs.declared.refusal.Refusal.{Refusal}
use Rattle.chi_fields.specs.declared.request.Request.{Request}
use Rattle.chi_lanes.specs.After.{after, answer}
use Rattle.chi_lanes.specs.Memory.{Memory}
use Rattle.chi_history.specs.declared.line.Line.{Line}
use Rattle.chi_history.specs.History.{one_if}
use Rattle.chi_history.specs.Lines.{serial, serial_after, serial_end, serial_line}
use Rattle.chi_trace.specs.declared.operation.Operation.{Operation}
use Rattle.chi_trace.specs.Explains.{Answers, Explains, IsInTime, at, is_answered, is_place, memory_after, nothing, times_in, word_of}
use Rattle.chi_run_laws.specs.Executed.{done_at, executed, operation_at}
use Rattle.chi_run_laws.proofs.Ranges.{all_of_range, once_in_order}

-- a request of this kind that is accepted has the access that it describes
access_as-accepted : (region : Extent) (q : Request) (kind : Kind) (a : Access) → decision_as kind q region ≡ Ok a → access_as kind q ≡ a
unfolding decision_as
access_as-accepted region q kind a is = grind (arith, common_steps)

-- so has a request of any kind
pub access_accepted : (region : Extent) (q : Request) (a : Access) → decision q region ≡ Ok a → access_of q ≡ Some a
access_accepted region q a = by_kind (kind_of q.opcode)
  where
    by_kind : (k : Option Kind) → decision_of k q region ≡ Ok a → option_map (λ (kind : Kind). access_as kind q) k ≡ Some a
    by_kind None is = cc
    by_kind (Some kind) is = ap (λ (o : Access). Some o) (access_as-accepted region q kind a is)

-- the operations of lines, the first of which has this place
abbrev pub operations_from : ℕ → List Line → List Operation
operations_from place lines = filter_map (λ p. operation_at p.0 p.1) (enumerate_from place lines)

-- those of a script's requests, executed from a memory on
abbrev pub ran : Extent → ℕ → List Request → Memory → List Operation
ran region place qs m = operations_from place (serial region qs m)

-- by what is decided of the first request
first_by : (region : Extent) (place : ℕ) (q : Request) (qs : List Request) (m : Memory) (r : Result Access Refusal) → decision q region ≡ r
    → ran region place (q ∷ qs) m ≡ operations_from place (serial_line r q m ∷ serial region qs (serial_after r m))
unfolding serial
first_by region place q qs m r is = ap (λ (d : Result Access Refusal). operations_from place (serial_line d q m ∷ serial region qs (serial_after d m))) is

-- a request that is accepted is the first operation
pub ran_accepted : (region : Extent) (place : ℕ) (q : Request) (qs : List Request) (m : Memory) (a : Access) → decision q region ≡ Ok a
    → ran region place (q ∷ qs) m ≡ done_at place q (answer a m) a ∷ ran region (place + 1) qs (after a m)
ran_accepted region place q qs m a is =
    first_by region place q qs m (Ok a) is
    ∙ ap (λ (o : Option Access). cons_option (option_map (done_at place q (answer a m)) o) (ran region (place + 1) qs (after a m))) (access_accepted region q a is)

-- one that is refused is none
pub ran_refused : (region : Extent) (place : ℕ) (q : Request) (qs : List Request) (m : Memory) (fault : Refusal) → decision q region ≡ Err fault
    → ran region place (q ∷ qs) m ≡ ran region (place + 1) qs m
ran_refused region place q qs m fault is = first_by region place q qs m (Err fault) is

-- the memory after requests, by what is decided of the first
end_accepted : (region : Extent) (q : Request) (qs : List Request) (m : Memory) (a : Access) → decision q region ≡ Ok a
    → serial_end region (q ∷ qs) m ≡ serial_end region qs (after a m)
unfolding serial_end
end_accepted region q qs m a is = ap (λ (d : Result Access Refusal). serial_end region qs (serial_after d m)) is

end_refused : (region : Extent) (q : Request) (qs : List Request) (m : Memory) (fault : Refusal) → decision q region ≡ Err fault
    → serial_end region (q ∷ qs) m ≡ serial_end region qs m
unfolding serial_end
end_refused region q qs m fault is = ap (λ (d : Result Access Refusal). serial_end region qs (serial_after d m)) is

-- the operations after the first ones answer as the memory does, and leave this one
pub record Play (before rest : List Operation) (m left : Memory) : Type 0 where
  pub answers : Answers (before ++ rest) m (range_with_len (length before) (length rest))
  pub ends : memory_after (before ++ rest) m (range_with_len (length before) (length rest)) ≡ left

-- one operation more at the front
play_more : (before rest : List Operation) (op : Operation) (m left : Memory) → IfSome op.reply (λ reply. reply ≡ answer op.access m)
    → Play (before ++ op ∷ []) rest (after op.access m) left → Play before (op ∷ rest) m left
unfolding Answers memory_after
play_more before rest op m left answered play =
    let here : at (before ++ op ∷ rest) (length before) ≡ op = get_or-append_seam before op rest nothing in
    let whole : (before ++ op ∷ []) ++ rest ≡ before ++ op ∷ rest = append_assoc before (op ∷ []) rest in
    let count : length (before ++ op ∷ []) ≡ length before + 1 = length-append before (op ∷ []) in
    let Rest : List Operation → ℕ → Access → Type 0 = λ ops n access.
    Answers ops (after access m) (range_with_len n (length rest)) × (memory_after ops (after access m) (range_with_len n (length rest)) ≡ left) in
    let told : Rest (before ++ op ∷ rest) (length before + 1) op.access =
    subst (λ n. Rest (before ++ op ∷ rest) n op.access) count (subst (λ ops. Rest ops (length (before ++ op ∷ [])) op.access) whole (play.answers, play.ends)) in
    let moved : IfSome (at (before ++ op ∷ rest) (length before)).reply (λ reply. reply ≡ answer (at (before ++ op ∷ rest) (length before)).access m)
    × Rest (before ++ op ∷ rest) (length before + 1) (at (before ++ op ∷ rest) (length before)).access =
    subst (λ (o : Operation). IfSome o.reply (λ reply. reply ≡ answer o.access m) × Rest (before ++ op ∷ rest) (length before + 1) o.access) (sym here) (answered, told) in
    record { answers = (moved.0, moved.1.0); ends = moved.1.1 }

-- the requests of a script play
pub plays : (region : Extent) (qs : List Request) (place : ℕ) (m : Memory) (before : List Operation) → Play before (ran region place qs m) m (serial_end region qs m)
unfolding serial serial_end Answers memory_after
plays region [] place m before = record { answers = tt; ends = refl }
plays region (q ∷ qs) place m before = by_decision (decision q region) refl (plays region qs (place + 1))
  where
    by_decision : (r : Result Access Refusal) → decision q region ≡ r
        → ((m' : Memory) (before' : List Operation) → Play before' (ran region (place + 1) qs m') m' (serial_end region qs m'))
        → Play before (ran region place (q ∷ qs) m) m (serial_end region (q ∷ qs) m)
    by_decision (Ok a) is later =
        let op : Operation = done_at place q (answer a m) a in
        let rest : List Operation = ran region (place + 1) qs (after a m) in
        let more : Play before (op ∷ rest) m (serial_end region qs (after a m)) =
        play_more before rest op m (serial_end region qs (after a m)) refl (later (after a m) (before ++ op ∷ [])) in
        subst (λ (ops : List Operation). Play before ops m (serial_end region (q ∷ qs) m)) (sym (ran_accepted region place q qs m a is))
        (subst (λ (left : Memory). Play before (op ∷ rest) m left) (sym (end_accepted region q qs m a is)) more)
    by_decision (Err fault) is later =
        subst (λ (ops : List Operation). Play before ops m (serial_end region (q ∷ qs) m)) (sym (ran_refused region place q qs m fault is))
        (subst (λ (left : Memory). Play before (ran region (place + 1) qs m) m left) (sym (end_refused region q qs m fault is)) (later m before))

-- the operations start one after another, each at a time of its own
unfoldable pub AreApart : ℕ → List Operation → Type 0
AreApart place [] = Unit {0}
AreApart place (op ∷ ops) = (place ≤ op.start) × (op.end ≡ op.start) × AreApart (op.start + 1) ops

apart_from : (ops : List Operation) (a b : ℕ) → b ≤ a → AreApart a ops → AreApart b ops
unfolding AreApart
apart_from [] a b less apart = tt
apart_from (op ∷ ops) a b less apart = (omega (arith, apart.0), apart.1, apart.2)

pub ran_apart : (region : Extent) (qs : List Request) (place : ℕ) (m : Memory) → AreApart place (ran region place qs m)
unfolding serial AreApart
ran_apart region [] place m = tt
ran_apart region (q ∷ qs) place m = by_decision (decision q region) refl (ran_apart region qs (place + 1))
  where
    by_decision : (r : Result Access Refusal) → decision q region ≡ r → ((m' : Memory) → AreApart (place + 1) (ran region (place + 1) qs m'))
        → AreApart place (ran region place (q ∷ qs) m)
    by_decision (Ok a) is later =
        let first : place ≤ place = omega arith in
        subst (AreApart place) (sym (ran_accepted region place q qs m a is)) (first, refl, later (after a m))
    by_decision (Err fault) is later =
        subst (AreApart place) (sym (ran_refused region place q qs m fault is)) (apart_from (ran region (place + 1) qs m) (place + 1) place (omega arith) (later m))

-- one of them ends no earlier than the first place
pub ends_past : (ops : List Operation) (place i : ℕ) → AreApart place ops → i < length ops → place ≤ (at ops i).end
unfolding AreApart
ends_past [] place i apart below = absurd (omega arith)
ends_past (op ∷ ops) place zero apart below = omega (arith, apart.0, apart.1)
ends_past (op ∷ ops) place (suc i) apart below = let later = ends_past ops (op.start + 1) i apart.2 (omega arith) in omega (arith, later, apart.0)

-- so none stands before one that had ended
in_time_from : (before rest : List Operation) (place : ℕ) → AreApart place rest → IsInTime (before ++ rest) (range_with_len (length before) (length rest))
unfolding IsInTime AreApart
in_time_from before [] place apart = tt
in_time_from before (op ∷ rest) place apart =
    let ops : List Operation = before ++ op ∷ rest in
    let here : at ops (length before) ≡ op = get_or-append_seam before op rest nothing in
    let whole : (before ++ op ∷ []) ++ rest ≡ ops = append_assoc before (op ∷ []) rest in
    let count : length (before ++ op ∷ []) ≡ length before + 1 = length-append before (op ∷ []) in
    let later : All (λ j. op.start ≤ (at ops j).end) (range_with_len (length before + 1) (length rest)) =
    all_of_range (λ j. op.start ≤ (at ops j).end) (length before + 1) (length rest) (λ j above below. after_op j above below) in
    let rest_in_time : IsInTime ops (range_with_len (length before + 1) (length rest)) =
    subst (λ n. IsInTime ops (range_with_len n (length rest))) count
    (subst (λ (l : List Operation). IsInTime l (range_with_len (length (before ++ op ∷ [])) (length rest))) whole (in_time_from (before ++ op ∷ []) rest (op.start + 1) apart.2)) in
    (subst (λ (o : Operation). All (λ j. o.start ≤ (at ops j).end) (range_with_len (length before + 1) (length rest))) (sym here) later, rest_in_time)
  where
    after_op : (j : ℕ) → length before + 1 ≤ j → j < length before + 1 + length rest → op.start ≤ (at (before ++ op ∷ rest) j).end
    after_op j above below =
        let i : ℕ = j - (length before + 1) in
        let is : length (before ++ op ∷ []) + i ≡ j = omega (arith, length-append before (op ∷ [])) in
        let inside : i < length rest = omega arith in
        let whole : before ++ op ∷ rest ≡ (before ++ op ∷ []) ++ rest = sym (append_assoc before (op ∷ []) rest) in
        let there : at (before ++ op ∷ rest) j ≡ at rest i =
        ap (λ (l : List Operation). at l j) whole ∙ (ap (at ((before ++ op ∷ []) ++ rest)) (sym is) ∙ get_or-append-add (before ++ op ∷ []) rest i nothing) in
        let past : op.start + 1 ≤ (at rest i).end = ends_past rest (op.start + 1) i apart.2 inside in
        let same : (at (before ++ op ∷ rest) j).end ≡ (at rest i).end = ap (λ (o : Operation). o.end) there in
        omega (arith, past, same)

-- What requests did that were executed one after another from a memory on is explained by their order, where the words at the end are
-- those of the memory that they leave.
pub explained : (region : Extent) (qs : List Request) (m : Memory) (final_words : ℕ → Option ℕ)
    → ((g : ℕ) → IfSome (final_words g) (λ w. word_of (serial_end region qs m) g ≡ w))
    → Explains m final_words (executed (serial region qs m)) (range_with_len 0 (length (executed (serial region qs m))))
explained region qs m final_words ending =
    let ops : List Operation = executed (serial region qs m) in
    let play : Play [] ops m (serial_end region qs m) = plays region qs 0 m [] in
    record {
      done = λ i. done_once ops i;
      once = λ i. let once = once_in_order (length ops) i in omega (arith, once);
      times = in_time_from [] ops 0 (ran_apart region qs 0 m);
      answers = play.answers;
      ending = λ g. subst (λ (left : Memory). IfSome (final_words g) (λ w. word_of left g ≡ w)) (sym play.ends) (ending g);
    }
  where
    by_tests : (a b : Bool) (n : ℕ) → n ≡ one_if a → one_if (a && b) ≤ n
    by_tests true true n is = omega (arith, is)
    by_tests true false n is = omega (arith, is)
    by_tests false b n is = omega (arith, is)

    done_once : (ops : List Operation) (i : ℕ) → one_if (is_place ops i && is_answered (at ops i)) ≤ times_in (range_with_len 0 (length ops)) i
    done_once ops i = by_tests (is_place ops i) (is_answered (at ops i)) (times_in (range_with_len 0 (length ops)) i) (once_in_order (length ops) i)
