-- requesters who work at the same time, and 0 after them
use Rattle.std.proofs.Common.{◌≡◌, ◌≢◌, ℕ, ◌+◌, ◌*◌, ◌≤◌, zero, suc, true, false, ◌||◌, List, [], ◌∷◌, ◌++◌, All, Result, Ok, Err, IsErr, IfErr, OnOk, refl, sym, ap, subst, ◌∙◌, arith, append_assoc, append-nil, eq-eqb, true≢false}
use Rattle.std.proofs.Math.Bool.{or-false}
use Rattle.std.proofs.lemmas.Bool.{lt-ltb, or_left}
use Rattle.std.proofs.lemmas.List.Elements.{All-append, All-cons, All-head, All-nil}
use Rattle.chi_fields.specs.declared.refusal.Refusal.{Refusal}
use Rattle.chi_fields.specs.declared.request.Request.{Request}
use Rattle.chi_fields.specs.Extent.{Extent}
use Rattle.chi_fields.specs.Access.{Access}
use Rattle.chi_fields.specs.Refusal.{decision}
use Rattle.chi_lanes.specs.After.{after}
use Rattle.chi_lanes.specs.Memory.{Memory}
use Rattle.chi_history.specs.declared.entry.Entry.{Entry}
use Rattle.chi_history.specs.declared.line.Line.{Line}
use Rattle.chi_history.specs.declared.line.Line.TheVariants.{Completed, Refused}
use Rattle.chi_history.specs.declared.opening.Opening.{Opening}
use Rattle.chi_history.specs.NumberSets.{Held, below, nobody, only, union, without}
use Rattle.chi_history.specs.History.{IsFreeOf, IsLegal, IsLegalFrom, end, of}
use Rattle.chi_history.specs.Lines.{retried}
use Rattle.chi_history.proofs.HistoryLemmas.{legal-back, legal-front, of-append, of-free}
use Rattle.chi_requester.specs.declared.fault.WorkFault.{WorkFault}
use Rattle.chi_requester.specs.declared.policy.Policy.{Policy}
use Rattle.chi_requester.specs.Race.{IsOf, IsRaceRun, is_retry}
use Rattle.chi_requester.specs.Team.{AreLeftBy, IsTeamRun, one_to}
use Rattle.chi_requester.specs.Reports.{Told, ToldOf}
use Rattle.chi_requester.specs.Work.{IsShare, IsExecuted, IsWorkRun, Share, own_requests}
use Rattle.chi_requester.proofs.FamilyLemmas.{apart_from, one_to_within, put, put_each, put_other, whole_split}
use Rattle.chi_requester.proofs.SerialLemmas.{unpaid_alone}
use Rattle.chi_requester.proofs.TeamLemmas.{left_more, left_still, racer_more, racer_none}
use Rattle.chi_requester.proofs.ReportLemmas.{access_of-decided, retried-append, told_unpaid}
use Rattle.chi_requester.proofs.WorkLemmas.{executed_none}

-- the entries of a legal history that contains no entry of a set are of the numbers outside it
pub of_others : (o : Opening) (m : Memory) (held others : Held) (xs : List Entry) → union held others ≡ below o.requesters → IsLegalFrom o m xs → IsFreeOf held xs → IsOf others xs
unfolding IsLegalFrom IsFreeOf IsOf
of_others o m held others [] whole legal free = tt
of_others o m held others (x ∷ xs) whole legal free =
    let inside : held x.src || others x.src ≡ true = ap (λ (s : Held). s x.src) whole ∙ lt-ltb x.src o.requesters legal.0.requester in
    (rw free.0 at inside, of_others o (after x.access m) held others xs whole legal.1 free.1)

-- what is of a set has no entry of a number outside it
pub of_none : (set : Held) (src : ℕ) (xs : List Entry) → set src ≡ false → IsOf set xs → of xs src ≡ []
unfolding of IsOf
of_none set src [] apart of_them = refl
of_none set src (x ∷ xs) apart of_them = rw (apart_from set src x.src apart of_them.0) (of_none set src xs apart of_them.1)

-- where no RetryAck to a request is paid for, there is none
pub unretried : (region : Extent) (policy : Policy) (limit : ℕ) (qs : List Request) (lines : List Line) → Told region policy limit qs lines → ((g : ℕ) → limit * retried region lines g ≤ 0)
    → All (λ line. is_retry line ≡ false) lines
unfolding Told
unretried region policy limit [] lines told paid = let P : List Line → Type 0 = λ xs. All (λ line. is_retry line ≡ false) xs in subst P (sym told) (All-nil (λ (line : Line). is_retry line ≡ false))
unretried region policy limit (q ∷ qs) lines told paid =
    let P : List Line → Type 0 = λ xs. All (λ line. is_retry line ≡ false) xs in
    subst P (sym told.2) (All-append (λ (line : Line). is_retry line ≡ false) told.0 told.1 (piece (decision q region) refl told.3) (unretried region policy limit qs told.1 told.4 (λ g. let s = split g in omega arith)))
  where
    split : (g : ℕ) → limit * retried region told.0 g + limit * retried region told.1 g ≤ 0
    split g = let e = ap (λ (xs : List Line). retried region xs g) told.2 ∙ retried-append region told.0 told.1 g in
        let Q : ℕ → Type 0 = λ n. limit * n ≤ 0 in let h = subst Q e (paid g) in omega arith

    single : (line : Line) → told.0 ≡ line ∷ [] → is_retry line ≡ false → All (λ x. is_retry x ≡ false) told.0
    single line is one = let P : List Line → Type 0 = λ xs. All (λ x. is_retry x ≡ false) xs in subst P (sym is) (All-cons (λ (x : Line). is_retry x ≡ false) line [] one (All-nil (λ (x : Line). is_retry x ≡ false)))

    piece : (d : Result Access Refusal) → decision q region ≡ d → ToldOf d policy limit q told.0 → All (λ line. is_retry line ≡ false) told.0
    piece (Err fault) refused is = single (Refused q fault) is refl
    piece (Ok a) accepted is =
        let done = told_unpaid region policy limit q a told.0 (access_of-decided region q a accepted) is (λ g. let s = split g in omega arith) in
        single (Completed q done.0) done.1 refl

-- no request was executed
abbrev pub idle_shares : List Request → ℕ → Share
idle_shares all = λ r. record { done = []; left = own_requests all r; appended = [] }

-- the requests of 0 were executed after those of the racers, by a seat that had taken theirs back
pub race_run : {o : Opening} {policy : Policy} {limit : ℕ} {all : List Request} {kept racers held : Held} {start seen seen' : List Entry} {lines lines' lines'' : ℕ → List Line}
    {first result : Result (Unit {0}) WorkFault} (last : Share) → racers 0 ≡ false → union kept racers ≡ below o.requesters → IsLegal o seen'
    → (t : IsTeamRun first o policy limit all kept racers held start seen lines lines') → (w : IsExecuted o policy limit held 0 seen seen' last.done last.appended)
    → ((r : ℕ) → lines'' (suc r) ≡ lines' (suc r)) → IsShare all 0 (lines 0) (lines'' 0) last → AreLeftBy result (union racers (only 0)) (put 0 last t.share)
    → ((r : ℕ) → racers r ≡ true → (t.share r).left ≢ [] → last.done ≡ []) → IsRaceRun result o policy limit racers all start seen' lines lines''
race_run {o = o} {policy = policy} {limit = limit} {all = all} {kept = kept} {racers = racers} {held = held} {start = start} {seen = seen} {seen' = seen'} {lines = lines} {lines' = lines'} {lines'' = lines''}
    last apart whole legal t w past last_share left waits = record {
      since = t.since ++ w.since;
      grown = grown;
      share = put 0 last t.share;
      shares = put_each (λ r x. IsShare all r (lines r) (lines'' r) x) racers 0 last t.share last_share
          (λ r is. record { parts = (t.shares r is).parts; kept = same r is ∙ (t.shares r is).kept });
      are_left = left;
      zero_waits = λ r is some. waits r is (rw (put_other racers 0 last t.share r apart is) at some);
      race = record {
        legal = let P : List Entry → Type 0 = λ h. IsLegal o h in subst P grown legal;
        raced = t.since;
        last = w.since;
        parts = refl;
        of_racers = of_others o (end o start) kept racers t.since whole (legal-front o (end o start) t.since w.since (after_seen start (t.since ++ w.since) grown)) t.free;
        of_zero = of_zero;
        racer = λ r is. rw (put_other racers 0 last t.share r apart is) (racer_more (t.racer r is) w.since (of_none (only 0) r w.since (apart_from racers 0 r apart is) of_zero));
        zero_mine = w.mine ∙ sym (of-append t.since w.since 0 ∙ ap (λ h. h ++ of w.since 0) (of-free kept t.since 0 t.zero_kept t.free));
        zero_told = w.told;
        zero_unretried = unretried o.region policy limit last.done last.appended w.told (unpaid_alone o limit held seen w.since last.appended (t.held_is ∙ whole) (after_seen seen w.since w.grown) w.paid);
      };
    }
  where
    grown : seen' ≡ start ++ (t.since ++ w.since)
    grown = w.grown ∙ (ap (λ h. h ++ w.since) t.grown ∙ append_assoc start t.since w.since)

    after_seen : (h more : List Entry) → seen' ≡ h ++ more → IsLegalFrom o (end o h) more
    after_seen h more is = let P : List Entry → Type 0 = λ x. IsLegal o x in legal-back o _ h more (subst P is legal)

    of_zero : IsOf (only 0) w.since
    of_zero =
        let zero_held = ap (λ (s : Held). s 0) t.held_is ∙ or_left (kept 0) (racers 0) t.zero_kept in
        of_others o (end o seen) (without 0 held) (only 0) w.since (whole_split held held nobody 0 (λ i r. or-false (held r) i) zero_held ∙ (t.held_is ∙ whole)) (after_seen seen w.since w.grown) w.free

    same : (r : ℕ) → racers r ≡ true → lines'' r ≡ lines' r
    same zero is = absurd (true≢false (sym is ∙ apart))
    same (suc r) is = past r

-- 0 did not begin, since a racer stopped
pub race_stopped : {o : Opening} {policy : Policy} {limit : ℕ} {all : List Request} {kept racers held : Held} {start seen : List Entry} {lines lines' : ℕ → List Line} {fault : WorkFault}
    (result : Result (Unit {0}) WorkFault) → racers 0 ≡ false → union kept racers ≡ below o.requesters → IsLegal o seen → IsErr result → lines' 0 ≡ lines 0
    → IsTeamRun (Err fault) o policy limit all kept racers held start seen lines lines' → IsRaceRun result o policy limit racers all start seen lines lines'
race_stopped {o = o} {policy = policy} {limit = limit} {all = all} {racers = racers} {held = held} {seen = seen} {lines = lines} {fault = fault} result apart whole legal failed same t =
    race_run idle apart whole legal t (executed_none o policy limit held 0 seen) (λ r. refl) (record { parts = refl; kept = same ∙ sym (append-nil (lines 0)) }) (left result failed) (λ r is some. refl)
  where
    idle : Share
    idle = record { done = []; left = own_requests all 0; appended = [] }

    left : (x : Result (Unit {0}) WorkFault) → IsErr x → AreLeftBy x (union racers (only 0)) (put 0 idle t.share)
    left (Ok u) is = cc
    left (Err e) is = left_still racers 0 idle t.share fault e apart t.are_left

-- the requests of 0 were executed, after the racers were done
pub race_done : {o : Opening} {policy : Policy} {limit : ℕ} {all : List Request} {kept racers held : Held} {start seen seen' : List Entry} {lines lines' lines'' : ℕ → List Line} {u : Unit {0}}
    {result : Result (Unit {0}) WorkFault} → racers 0 ≡ false → union kept racers ≡ below o.requesters → IsLegal o seen' → IsTeamRun (Ok u) o policy limit all kept racers held start seen lines lines'
    → lines' 0 ≡ lines 0 → ((r : ℕ) → lines'' (suc r) ≡ lines' (suc r)) → IsWorkRun result o policy limit held 0 all seen seen' (lines' 0) (lines'' 0) → IsRaceRun result o policy limit racers all start seen' lines lines''
race_done {racers = racers} {u = u} {result = result} apart whole legal t same past z =
    race_run last apart whole legal t z.executed past (record { parts = z.parts; kept = z.kept ∙ ap (λ xs. xs ++ z.appended) same })
    (left_more (Ok u) result racers 0 last t.share apart t.are_left z.are_left) (λ r is some. absurd (some (t.are_left r is)))
  where
    last : Share
    last = record { done = z.done; left = z.left; appended = z.appended }

-- where nobody began, nothing is added to the history
race_idle : (o : Opening) (policy : Policy) (limit : ℕ) (racers : Held) (all : List Request) (seen : List Entry) (lines : ℕ → List Line) (result : Result (Unit {0}) WorkFault)
    → IsLegal o seen → AreLeftBy result (union racers (only 0)) (idle_shares all) → IsRaceRun result o policy limit racers all seen seen lines lines
unfolding IsFreeOf IsOf of
race_idle o policy limit racers all seen lines result legal left = record {
  since = [];
  grown = sym (append-nil seen);
  share = idle_shares all;
  shares = λ r is. record { parts = refl; kept = sym (append-nil (lines r)) };
  are_left = left;
  zero_waits = λ r is some. refl;
  race = record {
    legal = rw (append-nil seen) legal;
    raced = [];
    last = [];
    parts = refl;
    of_racers = tt;
    of_zero = tt;
    racer = λ r is. racer_none o policy limit r seen;
    zero_mine = refl;
    zero_told = (racer_none o policy limit 0 seen).told;
    zero_unretried = All-nil (λ (line : Line). is_retry line ≡ false);
  };
}

-- Nobody began: there was no request, or some request is left, since each is of a racer or of 0.
pub race_unbegun : (o : Opening) (policy : Policy) (limit n : ℕ) (all : List Request) (seen : List Entry) (lines : ℕ → List Line) (result : Result (Unit {0}) WorkFault)
    → IsLegal o seen → OnOk result (all ≡ []) → IfErr result (λ _. all ≢ []) → All (λ q. q.src ≤ n) all → IsRaceRun result o policy limit (one_to n) all seen seen lines lines
race_unbegun o policy limit n all seen lines (Ok u) legal none some known =
    race_idle o policy limit (one_to n) all seen lines (Ok u) legal (λ r is. ap (λ (qs : List Request). own_requests qs r) none)
race_unbegun o policy limit n [] seen lines (Err fault) legal none some known = absurd (some refl)
race_unbegun o policy limit n (q ∷ qs) seen lines (Err fault) legal none some known =
    race_idle o policy limit (one_to n) (q ∷ qs) seen lines (Err fault) legal (q.src, one_to_within n q.src (All-head (λ (x : Request). x.src ≤ n) q qs known), rw (eq-eqb q.src q.src refl) (λ none. cc))
