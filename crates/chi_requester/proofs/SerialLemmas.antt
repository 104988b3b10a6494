-- requests that are executed one after another by a seat that holds every number
use Rattle.std.proofs.Common.{◌≡◌, ℕ, ◌+◌, ◌*◌, ◌<◌, ◌≤◌, Bool, true, false, not, ◌&&◌, ◌==◌, nat_lt, cond, List, [], ◌∷◌, ◌++◌, Option, Result, Ok, Err, refl, sym, ap, subst, ◌∙◌, arith, append_assoc, append-nil, length, get_or, take, drop, IsErr, true≢false}
use Rattle.std.proofs.lemmas.Bool.{lt-ltb}
use Rattle.std.proofs.lemmas.List.{take_more, take-append-drop}
use Rattle.std.proofs.lemmas.Grind.{flat_map-append}
use Rattle.chi_fields.specs.declared.refusal.Refusal.{Refusal}
use Rattle.chi_fields.specs.declared.request.Request.{Request}
use Rattle.chi_fields.specs.Extent.{Extent}
use Rattle.chi_fields.specs.Access.{Access}
use Rattle.chi_fields.specs.Refusal.{decision}
use Rattle.chi_lanes.specs.declared.reply.Reply.{Reply}
use Rattle.chi_lanes.specs.After.{after, answer}
use Rattle.chi_lanes.specs.Memory.{Memory}
use Rattle.chi_history.specs.declared.entry.Entry.{Entry}
use Rattle.chi_history.specs.declared.line.Line.{Line}
use Rattle.chi_history.specs.declared.line.Line.TheVariants.{Completed}
use Rattle.chi_history.specs.declared.opening.Opening.{Opening}
use Rattle.chi_history.specs.NumberSets.{Held, below, without}
use Rattle.chi_history.specs.History.{IsFreeOf, IsLegal, IsLegalFrom, changes, end, end_from, hits, hits_from, of, one_if}
use Rattle.chi_history.specs.Lines.{entries, entry_of, line_entries, retried, serial, serial_after, serial_end, serial_line}
use Rattle.chi_history.specs.HomeClauses.{entry}
use Rattle.chi_history.proofs.HistoryLemmas.{end_from-append, legal-back}
use Rattle.chi_requester.specs.declared.fault.WorkFault.{WorkFault}
use Rattle.chi_requester.specs.declared.policy.Policy.{Policy}
use Rattle.chi_requester.specs.Serial.{IsSerialRun}
use Rattle.chi_requester.specs.Reports.{ToldOf}
use Rattle.chi_requester.specs.Work.{IsExecuted}
use Rattle.chi_requester.proofs.ReportLemmas.{access_of-decided, told_alone, told_unpaid}
use Rattle.chi_requester.proofs.WorkLemmas.{are_left-err, drop-within, entries_one}

-- the lines of requests, and then of others
pub serial-append : (region : Extent) (qs rs : List Request) (m : Memory) → serial region (qs ++ rs) m ≡ serial region qs m ++ serial region rs (serial_end region qs m)
unfolding serial serial_end
serial-append region [] rs m = refl
serial-append region (q ∷ qs) rs m =
    ap (λ (xs : List Line). serial_line (decision q region) q m ∷ xs) (serial-append region qs rs (serial_after (decision q region) m))

-- the entry of a request's line makes the memory that the request leaves
pub serial_line-entries : (region : Extent) (d : Result Access Refusal) (q : Request) (m : Memory) → decision q region ≡ d
    → end_from m (line_entries (serial_line d q m)) ≡ serial_after d m
unfolding end_from
serial_line-entries region (Err fault) q m is = refl
serial_line-entries region (Ok a) q m is = ap (λ (x : Option Access). end_from m (entry_of q (answer a m) x)) (access_of-decided region q a is)

-- the entries of the lines make the memory that the requests leave
pub serial_end-entries : (region : Extent) (qs : List Request) (m : Memory) → end_from m (entries (serial region qs m)) ≡ serial_end region qs m
unfolding serial serial_end end_from
serial_end-entries region [] m = refl
serial_end-entries region (q ∷ qs) m =
    end_from-append m (line_entries line) (entries (serial region qs later))
    ∙ (ap (λ (n : Memory). end_from n (entries (serial region qs later))) (serial_line-entries region (decision q region) q m refl)
    ∙ serial_end-entries region qs later)
  where
    line : Line
    line = serial_line (decision q region) q m

    later : Memory
    later = serial_after (decision q region) m

-- a legal history that contains no entry of any other number is one requester's
pub of-alone : (o : Opening) (m : Memory) (src : ℕ) (xs : List Entry) → IsLegalFrom o m xs → IsFreeOf (without src (below o.requesters)) xs → of xs src ≡ xs
unfolding IsLegalFrom IsFreeOf of
of-alone o m src [] legal free = refl
of-alone o m src (x ∷ xs) legal free = by_test (x.src == src) free_here (of-alone o (after x.access m) src xs legal.1 free.1)
  where
    free_here : not (x.src == src) ≡ false
    free_here = let here : nat_lt x.src o.requesters ≡ true = lt-ltb x.src o.requesters legal.0.requester in let P : Bool → Type 0 = λ b. b && not (x.src == src) ≡ false in subst P here free.0

    by_test : (b : Bool) → not b ≡ false → of xs src ≡ xs → cond b (x ∷ of xs src) (of xs src) ≡ x ∷ xs
    by_test true is rest = ap (λ (es : List Entry). x ∷ es) rest
    by_test false is rest = absurd (true≢false is)

-- no entry of a legal history is a hit for a set of every requester
pub hits_none : (o : Opening) (m : Memory) (xs : List Entry) (g : ℕ) → IsLegalFrom o m xs → hits_from o m xs g (below o.requesters) ≡ 0
unfolding hits_from IsLegalFrom
hits_none o m [] g legal = refl
hits_none o m (x ∷ xs) g legal =
    let here : nat_lt x.src o.requesters ≡ true = lt-ltb x.src o.requesters legal.0.requester in
    let later = hits_none o (after x.access m) xs g legal.1 in
    let no_hit = ap (λ (b : Bool). one_if (changes x.access m o.region g && not b)) here ∙ and_false (changes x.access m o.region g) in
    omega arith
  where
    and_false : (b : Bool) → one_if (b && false) ≡ 0
    and_false true = refl
    and_false false = refl

-- so no RetryAck is paid for where the seat holds every number
pub unpaid_alone : (o : Opening) (limit : ℕ) (held : Held) (seen since : List Entry) (lines : List Line) → held ≡ below o.requesters
    → IsLegalFrom o (end o seen) since → ((g : ℕ) → limit * retried o.region lines g ≤ hits o seen since g held) → (g : ℕ) → limit * retried o.region lines g ≤ 0
unpaid_alone o limit held seen since lines all legal paid g =
    let none_hit = ap (λ (s : Held). hits_from o (end o seen) since g s) all ∙ hits_none o (end o seen) since g legal in
    let own = paid g in
    omega arith

-- the only piece that may be reported of a request beside which no other is executed: its refusal, or its
-- completion with the answer of the memory before it
pub piece_alone : (o : Opening) (policy : Policy) (limit : ℕ) (m : Memory) (q : Request) (d : Result Access Refusal) (piece : List Line)
    → decision q o.region ≡ d → ToldOf d policy limit q piece → IsLegalFrom o m (entries piece)
    → ((g : ℕ) → limit * retried o.region piece g ≤ 0) → piece ≡ serial_line d q m ∷ []
unfolding IsLegalFrom
piece_alone o policy limit m q (Err fault) piece is told legal unpaid = told
piece_alone o policy limit m q (Ok a) piece is told legal unpaid = done.1 ∙ ap (λ (p : Reply). Completed q p ∷ []) answered
  where
    done : (reply : Reply) × (piece ≡ Completed q reply ∷ [])
    done = told_unpaid o.region policy limit q a piece (access_of-decided o.region q a is) told unpaid

    one : IsLegalFrom o m (entry q.src a done.0 ∷ [])
    one = let P : List Entry → Type 0 = λ es. IsLegalFrom o m es in subst P (ap entries done.1 ∙ entries_one q a done.0 (access_of-decided o.region q a is)) legal

    answered : done.0 ≡ answer a m
    answered = one.0.answered

-- these requests were executed, one after another, and no other
pub record Progress (o : Opening) (qs : List Request) (seen seen' : List Entry) (lines lines' : List Line) : Type 0 where
  pub told : lines' ≡ lines ++ serial o.region qs (end o seen)
  pub grown : seen' ≡ seen ++ entries (serial o.region qs (end o seen))

-- none of them
pub progress_none : (o : Opening) (seen : List Entry) (lines : List Line) → Progress o [] seen seen lines lines
unfolding serial
progress_none o seen lines = record { told = sym (append-nil lines); grown = sym (append-nil seen) }

-- one more
pub progress_more : (o : Opening) (policy : Policy) (limit : ℕ) (held : Held) (start seen seen' : List Entry) (qs : List Request) (q : Request) (first lines lines' piece : List Line)
    → held ≡ below o.requesters → IsLegal o seen' → Progress o qs start seen first lines → lines' ≡ lines ++ piece
    → IsExecuted o policy limit held q.src seen seen' (q ∷ []) piece → Progress o (qs ++ q ∷ []) start seen' first lines'
unfolding serial serial_end
progress_more o policy limit held start seen seen' qs q first lines lines' piece all legal before more w = record {
  told = more ∙ (ap (λ (xs : List Line). xs ++ piece) before.told ∙ (append_assoc first past piece ∙ ap (λ (xs : List Line). first ++ xs) both));
  grown = w.grown ∙ (ap (λ (h : List Entry). h ++ w.since) before.grown ∙ (append_assoc start (entries past) w.since
      ∙ ap (λ (h : List Entry). start ++ h) (ap (λ (h : List Entry). entries past ++ h) (sym mine)
      ∙ (sym (flat_map-append line_entries past piece) ∙ ap entries both))));
}
  where
    past : List Line
    past = serial o.region qs (end o start)

    since_legal : IsLegalFrom o (end o seen) w.since
    since_legal = let P : List Entry → Type 0 = λ h. IsLegal o h in legal-back o _ seen w.since (subst P w.grown legal)

    mine : entries piece ≡ w.since
    mine = let P : Held → Type 0 = λ s. IsFreeOf (without q.src s) w.since in w.mine ∙ of-alone o (end o seen) q.src w.since since_legal (subst P all w.free)

    here : end o seen ≡ serial_end o.region qs (end o start)
    here = ap (end o) before.grown ∙ (end_from-append _ start (entries past) ∙ serial_end-entries o.region qs (end o start))

    line : piece ≡ serial o.region (q ∷ []) (end o seen)
    line = piece_alone o policy limit (end o seen) q (decision q o.region) piece refl (told_alone o.region policy limit q piece w.told)
        (let P : List Entry → Type 0 = λ h. IsLegalFrom o (end o seen) h in subst P (sym mine) since_legal)
        (unpaid_alone o limit held seen w.since piece all since_legal w.paid)

    both : past ++ piece ≡ serial o.region (qs ++ q ∷ []) (end o start)
    both = ap (λ (xs : List Line). past ++ xs) (line ∙ ap (λ (m : Memory). serial o.region (q ∷ []) m) here) ∙ sym (serial-append o.region qs (q ∷ []) (end o start))

-- the request at an index, after those before it
pub progress_next : (o : Opening) (policy : Policy) (limit : ℕ) (held : Held) (start seen seen' : List Entry) (qs : List Request) (i : ℕ) (d : Request) (first lines lines' piece : List Line)
    → i < length qs → held ≡ below o.requesters → IsLegal o seen' → Progress o (take i qs) start seen first lines → lines' ≡ lines ++ piece
    → IsExecuted o policy limit held (get_or qs i d).src seen seen' (get_or qs i d ∷ []) piece → Progress o (take (i + 1) qs) start seen' first lines'
progress_next o policy limit held start seen seen' qs i d first lines lines' piece within all legal before more w =
    let P : List Request → Type 0 = λ rs. Progress o rs start seen' first lines' in
    subst P (sym (take_more qs i d within)) (progress_more o policy limit held start seen seen' (take i qs) (get_or qs i d) first lines lines' piece all legal before more w)

-- the work stops before the request at an index
pub serial_stopped : (result : Result (Unit {0}) WorkFault) (o : Opening) (qs : List Request) (i : ℕ) (start seen seen' : List Entry) (first lines lines' : List Line)
    → i < length qs → IsErr result → Progress o (take i qs) start seen first lines → lines' ≡ lines → seen' ≡ seen → IsSerialRun result o qs start seen' first lines'
serial_stopped result o qs i start seen seen' first lines lines' within failed before same_lines same_seen = record {
  executed = take i qs;
  left = drop i qs;
  parts = take-append-drop i qs;
  are_left = are_left-err result (drop i qs) failed (drop-within qs i within);
  told = same_lines ∙ before.told;
  grown = same_seen ∙ before.grown;
}
