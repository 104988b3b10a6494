-- requesters who work at the same time, and a seat that takes theirs back
use Rattle.std.proofs.Common.{◌≡◌, ℕ, true, false, ◌==◌, List, [], ◌∷◌, ◌++◌, Result, Ok, Err, refl, sym, ap, subst, ◌∙◌, eqb-true, eq-eqb, arith, append_assoc, append-nil}
use Rattle.std.specs.Result.{result_and}
use Rattle.std.proofs.Math.Bool.{or-false}
use Rattle.std.proofs.lemmas.Bool.{or_left, or_right}
use Rattle.std.proofs.lemmas.List.{append_cancel_left}
use Rattle.chi_lanes.specs.After.{after}
use Rattle.chi_lanes.specs.Memory.{Memory}
use Rattle.chi_fields.specs.declared.request.Request.{Request}
use Rattle.chi_history.specs.declared.entry.Entry.{Entry}
use Rattle.chi_history.specs.declared.line.Line.{Line}
use Rattle.chi_history.specs.declared.opening.Opening.{Opening}
use Rattle.chi_history.specs.NumberSets.{Held, nobody, only, union}
use Rattle.chi_history.specs.History.{IsFreeOf, end, hits_from, of}
use Rattle.chi_history.specs.HomeClauses.{Joins}
use Rattle.chi_history.proofs.HistoryLemmas.{free-append, free-front, free-within, hits-append, of-append, of-free}
use Rattle.chi_requester.specs.declared.fault.WorkFault.{WorkFault}
use Rattle.chi_requester.specs.declared.policy.Policy.{Policy}
use Rattle.chi_requester.specs.Team.{AreLeftBy, IsTeamRun}
use Rattle.chi_requester.specs.Reports.{Told}
use Rattle.chi_requester.specs.Stretches.{Stretches}
use Rattle.chi_requester.specs.Work.{AreLeft, IsRacer, IsShare, IsExecuted, IsWorkRun, Share}
use Rattle.chi_requester.proofs.FamilyLemmas.{one_more, put, put_each, put_other}

-- entries of which none is of a set hit alike whether it is left out or not
pub hits_outside : (o : Opening) (m : Memory) (extra held : Held) (xs : List Entry) (g : ℕ) → IsFreeOf extra xs → hits_from o m xs g held ≡ hits_from o m xs g (union extra held)
unfolding hits_from IsFreeOf
hits_outside o m extra held [] g free = refl
hits_outside o m extra held (x ∷ xs) g free = rw (free.0, hits_outside o (after x.access m) extra held xs g free.1) refl

-- more entries of others leave a requester's part as it is
pub racer_more : {o : Opening} {policy : Policy} {limit src : ℕ} {seen since : List Entry} {qs : List Request} {lines : List Line}
    → IsRacer o policy limit src seen since qs lines → (more : List Entry) → of more src ≡ [] → IsRacer o policy limit src seen (since ++ more) qs lines
racer_more {o = o} {src = src} {seen = seen} {since = since} racer more others = record {
  mine = racer.mine ∙ sym (of-append since more src ∙ rw others (append-nil (of since src)));
  told = racer.told;
  paid = λ g. let both = hits-append o (end o seen) since more g (union (only 0) (only src)) in let own = racer.paid g in omega arith;
  first = racer.first;
  rest = racer.rest ++ more;
  parts = ap (λ h. h ++ more) racer.parts ∙ append_assoc racer.first racer.rest more;
  zero_free = racer.zero_free;
  stretches = racer.stretches;
}

-- what a requester did by its number alone, where 0 did nothing
pub racer_alone : {o : Opening} {policy : Policy} {limit src : ℕ} {seen seen' : List Entry} {qs : List Request} {lines : List Line}
    → (w : IsExecuted o policy limit (only src) src seen seen' qs lines) → IsFreeOf (only 0) w.since → IsRacer o policy limit src seen w.since qs lines
racer_alone {o = o} {policy = policy} {limit = limit} {src = src} {seen = seen} {qs = qs} {lines = lines} w free = record {
  mine = w.mine;
  told = w.told;
  paid = λ g. let same = hits_outside o (end o seen) (only 0) (only src) w.since g free in let own = w.paid g in omega arith;
  first = w.since;
  rest = [];
  parts = sym (append-nil w.since);
  zero_free = free;
  stretches = let P : List Entry → Type 0 = λ h. Stretches o policy limit (only src) seen h qs lines in subst P w.grown w.stretches;
}

-- a requester that did nothing
pub racer_none : (o : Opening) (policy : Policy) (limit src : ℕ) (seen : List Entry) → IsRacer o policy limit src seen [] [] []
unfolding Told of IsFreeOf Stretches
racer_none o policy limit src seen = record {
  mine = refl;
  told = refl;
  paid = λ g. omega arith;
  first = [];
  rest = [];
  parts = refl;
  zero_free = tt;
  stretches = (refl, append-nil seen);
}

-- where some of a set are left, some are with one more number
pub left_still : (set : Held) (src : ℕ) (new : Share) (share : ℕ → Share) (fault fault' : WorkFault) → set src ≡ false
    → AreLeftBy (Err fault) set share → AreLeftBy (Err fault') (union set (only src)) (put src new share)
left_still set src new share fault fault' apart left = (left.0, or_left (set left.0) (left.0 == src) left.1, rw (put_other set src new share left.0 apart left.1) left.2)

-- what a set and one more number left
pub left_more : (first second : Result (Unit {0}) WorkFault) (set : Held) (src : ℕ) (new : Share) (share : ℕ → Share) → set src ≡ false
    → AreLeftBy first set share → AreLeft second new.left → AreLeftBy (result_and first second) (union set (only src)) (put src new share)
left_more (Ok u) (Ok v) set src new share apart before after = put_each (λ r x. x.left ≡ []) set src new share after before
left_more (Ok u) (Err e) set src new share apart before after =
    (src, or_right (set src) (src == src) (eq-eqb src src refl), rw (eq-eqb src src refl) after)
left_more (Err e) second set src new share apart before after = left_still set src new share e e apart before

-- before a seat is taken back, nobody was at work
pub team_none : {o : Opening} {policy : Policy} {limit : ℕ} {all : List Request} {kept held : Held} {seen seen' : List Entry} {lines lines' : ℕ → List Line}
    → kept 0 ≡ true → held ≡ kept → seen' ≡ seen → IsTeamRun (Ok tt) o policy limit all kept nobody held seen seen' lines lines'
unfolding IsFreeOf
team_none {kept = kept} {seen = seen} zero whole same = record {
  since = [];
  grown = same ∙ sym (append-nil seen);
  zero_kept = zero;
  held_is = whole ∙ (λ i r. sym (or-false (kept r)) i);
  free = tt;
  share = λ r. record { done = []; left = []; appended = [] };
  shares = λ r is. cc;
  racer = λ r is. cc;
  are_left = λ r is. refl;
}

-- one more racer's seat is taken back
pub team_back : {o : Opening} {policy : Policy} {limit : ℕ} {all : List Request} {kept team held held' own_held : Held} {start seen seen' own_seen : List Entry} {lines lines' : ℕ → List Line}
    {first last result : Result (Unit {0}) WorkFault} (src : ℕ)
    → IsTeamRun first o policy limit all kept team held start seen lines lines' → IsWorkRun last o policy limit (only src) src all start own_seen (lines src) (lines' src)
    → team src ≡ false → own_held ≡ only src → held' ≡ union held own_held → Joins held seen own_held own_seen seen' → result ≡ result_and first last
    → IsTeamRun result o policy limit all kept (union team (only src)) held' start seen' lines lines'
team_back {o = o} {policy = policy} {limit = limit} {all = all} {kept = kept} {team = team} {held = held} {start = start} {seen' = seen'} {lines = lines} {lines' = lines'} {first = first} {last = last}
    src t run apart alone held_is joined both = record {
      since = t.since ++ joined.more;
      grown = grown;
      zero_kept = t.zero_kept;
      held_is = one_more src kept team held _ _ t.held_is alone held_is;
      free = free;
      share = put src new t.share;
      shares = put_each (λ r x. IsShare all r (lines r) (lines' r) x) team src new t.share (record { parts = run.parts; kept = run.kept }) t.shares;
      racer = put_each (λ r x. IsRacer o policy limit r start (t.since ++ joined.more) x.done x.appended) team src new t.share racer (λ r is. racer_more (t.racer r is) joined.more
          (of-free held joined.more r (ap (λ (s : Held). s r) t.held_is ∙ or_right (kept r) (team r) is) joined.free));
      are_left = let P : Result (Unit {0}) WorkFault → Type 0 = λ x. AreLeftBy x (union team (only src)) (put src new t.share) in
          subst P (sym both) (left_more first last team src new t.share apart t.are_left run.are_left);
    }
  where
    new : Share
    new = record { done = run.done; left = run.left; appended = run.appended }

    grown : seen' ≡ start ++ (t.since ++ joined.more)
    grown = joined.grown ∙ (ap (λ h. h ++ joined.more) t.grown ∙ append_assoc start t.since joined.more)

    free : IsFreeOf kept (t.since ++ joined.more)
    free = free-append kept t.since joined.more t.free (free-within held kept joined.more (λ r is. ap (λ (s : Held). s r) t.held_is ∙ or_left (kept r) (team r) is) joined.free)

    longer_by : t.since ++ joined.more ≡ run.executed.since ++ joined.other_more
    longer_by = append_cancel_left start _ _ (sym grown ∙ (joined.other_grown ∙ (ap (λ h. h ++ joined.other_more) run.executed.grown ∙ append_assoc start run.executed.since joined.other_more)))

    racer : IsRacer o policy limit src start (t.since ++ joined.more) run.done run.appended
    racer =
        let P : List Entry → Type 0 = λ h. IsFreeOf kept h in
        let zero_free = free-within kept (only 0) run.executed.since (λ r is. ap kept (eqb-true r 0 is) ∙ t.zero_kept) (free-front kept run.executed.since joined.other_more (subst P longer_by free)) in
        rw longer_by (racer_more (racer_alone run.executed zero_free) joined.other_more (of-free _ joined.other_more src (ap (λ (s : Held). s src) alone ∙ eq-eqb src src refl) joined.other_free))
