-- what a requester's work adds, and the work on several requests one after another
use Rattle.std.proofs.Common.{◌≡◌, ℕ, ◌*◌, ◌<◌, ◌≤◌, Bool, true, false, not, ◌&&◌, ◌==◌, List, [], ◌∷◌, ◌++◌, Option, Some, refl, sym, ap, subst, ◌∙◌, eqb-true, eq-eqb, arith, append_assoc, append-nil, length, drop, drop-cons, ◌≢◌, Result, Ok, Err, IsErr}
use Rattle.std.proofs.lemmas.Grind.{flat_map-append}
use Rattle.chi_fields.specs.declared.refusal.Refusal.{Refusal}
use Rattle.chi_fields.specs.declared.request.Request.{Request}
use Rattle.chi_fields.specs.Extent.{granule_of}
use Rattle.chi_fields.specs.Access.{Access}
use Rattle.chi_fields.specs.Refusal.{access_of}
use Rattle.chi_lanes.specs.declared.reply.Reply.{Reply}
use Rattle.chi_history.specs.declared.entry.Entry.{Entry}
use Rattle.chi_history.specs.declared.line.Line.{Line}
use Rattle.chi_history.specs.declared.line.Line.TheVariants.{Completed, Refused, Retried}
use Rattle.chi_history.specs.declared.opening.Opening.{Opening}
use Rattle.chi_history.specs.NumberSets.{Held, without}
use Rattle.chi_history.specs.History.{IsFreeOf, end, end_from, hits, hits_from, of, one_if}
use Rattle.chi_history.specs.Lines.{entries, entry_of, line_entries, retried}
use Rattle.chi_history.specs.HomeClauses.{Completes, Retries, entry}
use Rattle.chi_history.proofs.HeldLemmas.{without-held}
use Rattle.chi_history.proofs.HistoryLemmas.{end_from-append, free-append, free-within, hits-append, hits-free, of-append, of-free}
use Rattle.chi_requester.specs.declared.fault.WorkFault.{WorkFault}
use Rattle.chi_requester.specs.declared.policy.Policy.{Policy}
use Rattle.chi_requester.specs.Stretches.{Stretches}
use Rattle.chi_requester.specs.Work.{AreLeft, IsExecuted}
use Rattle.chi_requester.proofs.ReportLemmas.{retried-append, retried_one}
use Rattle.chi_requester.proofs.StretchLemmas.{stretches-append, stretches_none, stretches_told}

-- after a fault some requests are left
pub are_left-err : (result : Result (Unit {0}) WorkFault) (rest : List Request) → IsErr result → rest ≢ [] → AreLeft result rest
are_left-err (Ok u) rest failed some = cc
are_left-err (Err fault) rest failed some = some

-- from an index within a list on, something is left
pub drop-within : (qs : List Request) (i : ℕ) → i < length qs → drop i qs ≢ []
drop-within [] i within left = absurd (omega arith)
drop-within (q ∷ qs) i within left = let e = drop-cons (q ∷ qs) i q within in cc

-- the completion of a request is one entry
pub entries_one : (q : Request) (a : Access) (reply : Reply) → access_of q ≡ Some a → entries (Completed q reply ∷ []) ≡ entry q.src a reply ∷ []
entries_one q a reply is = ap (λ (x : Option Access). entry_of q reply x ++ []) is

-- a set has no number that was taken out
pub without-src : (src : ℕ) (held : Held) → without src held src ≡ false
without-src src held = by_test (held src)
  where
    by_test : (b : Bool) → b && not (src == src) ≡ false
    by_test true = ap not (eq-eqb src src refl)
    by_test false = refl

-- what these lines report of src was added to the history, with entries of numbers that the seat does not hold,
-- and their RetryAcks were paid for: the work, whatever requests it was on
pub record Adds (o : Opening) (limit : ℕ) (held : Held) (src : ℕ) (seen seen' : List Entry) (lines : List Line) : Type 0 where
  pub since : List Entry
  pub grown : seen' ≡ seen ++ since
  pub mine : entries lines ≡ of since src
  pub free : IsFreeOf (without src held) since
  pub paid : (g : ℕ) → limit * retried o.region lines g ≤ hits o seen since g held

-- the work on requests, from what it adds and its stretches
pub executed_from : (o : Opening) (policy : Policy) (limit : ℕ) (held : Held) (src : ℕ) (seen seen' : List Entry) (qs : List Request) (lines : List Line)
    → Adds o limit held src seen seen' lines → Stretches o policy limit held seen seen' qs lines → IsExecuted o policy limit held src seen seen' qs lines
executed_from o policy limit held src seen seen' qs lines x stretches = record {
  since = x.since;
  grown = x.grown;
  mine = x.mine;
  free = x.free;
  paid = x.paid;
  told = stretches_told o policy limit held seen seen' qs lines stretches;
  stretches = stretches;
}

-- what the work on requests adds
pub adds_of : (o : Opening) (policy : Policy) (limit : ℕ) (held : Held) (src : ℕ) (seen seen' : List Entry) (qs : List Request) (lines : List Line)
    → IsExecuted o policy limit held src seen seen' qs lines → Adds o limit held src seen seen' lines
adds_of o policy limit held src seen seen' qs lines w = record { since = w.since; grown = w.grown; mine = w.mine; free = w.free; paid = w.paid }

-- where there are no lines nothing is added
pub adds_none : (o : Opening) (limit : ℕ) (held : Held) (src : ℕ) (seen : List Entry) → Adds o limit held src seen seen []
unfolding of IsFreeOf hits_from
adds_none o limit held src seen = record { since = []; grown = sym (append-nil seen); mine = refl; free = tt; paid = λ g. omega arith }

-- nor where the line is a refusal
pub adds_refused : (o : Opening) (limit : ℕ) (held : Held) (src : ℕ) (seen : List Entry) (q : Request) (fault : Refusal)
    → Adds o limit held src seen seen (Refused q fault ∷ [])
unfolding of IsFreeOf hits_from
adds_refused o limit held src seen q fault = record { since = []; grown = sym (append-nil seen); mine = refl; free = tt; paid = λ g. omega arith }

-- a completion adds the request's entry
pub adds_done : (o : Opening) (limit : ℕ) (held : Held) (seen seen' : List Entry) (q : Request) (a : Access) (reply : Reply) (lost : ℕ)
    → held q.src ≡ true → access_of q ≡ Some a → Completes o held seen seen' q.src a reply lost → Adds o limit held q.src seen seen' (Completed q reply ∷ [])
unfolding of IsFreeOf
adds_done o limit held seen seen' q a reply lost holds is done = record {
  since = done.0 ++ made;
  grown = done.1 ∙ append_assoc seen done.0 made;
  mine = entries_one q a reply is ∙ sym own;
  free = free-append (without q.src held) done.0 made (free-within held (without q.src held) done.0 (without-held q.src held) done.2) (without-src q.src held, tt);
  paid = λ g. omega arith;
}
  where
    made : List Entry
    made = entry q.src a reply ∷ []

    own : of (done.0 ++ made) q.src ≡ made
    own = of-append done.0 made q.src ∙ rw (of-free held done.0 q.src holds done.2, eq-eqb q.src q.src refl) refl

-- a RetryAck adds none, and was paid for
pub adds_retried : (o : Opening) (limit : ℕ) (held : Held) (seen seen' : List Entry) (q : Request) (a : Access) (lost : ℕ)
    → held q.src ≡ true → access_of q ≡ Some a → Retries o held seen seen' a lost → lost ≡ limit → Adds o limit held q.src seen seen' (Retried q ∷ [])
adds_retried o limit held seen seen' q a lost holds is retry whole = record {
  since = retry.0;
  grown = retry.1;
  mine = sym (of-free held retry.0 q.src holds retry.2);
  free = free-within held (without q.src held) retry.0 (without-held q.src held) retry.2;
  paid = λ g. by_test g (granule_of a.addr o.region == g) refl;
}
  where
    paid_there : (g : ℕ) → granule_of a.addr o.region ≡ g → limit ≤ hits o seen retry.0 g held
    paid_there g there = let P : ℕ → Type 0 = λ x. limit ≤ hits o seen retry.0 x held in
        subst P there (let e = hits-free o (end o seen) retry.0 (granule_of a.addr o.region) held retry.2 in omega (arith, retry.3))

    by_test : (g : ℕ) (b : Bool) → (granule_of a.addr o.region == g) ≡ b → limit * retried o.region (Retried q ∷ []) g ≤ hits o seen retry.0 g held
    by_test g true here = let one = retried_one o.region q a g is ∙ ap one_if here in let enough = paid_there g (eqb-true _ _ here) in rw one (omega arith)
    by_test g false off = let none_here = retried_one o.region q a g is ∙ ap one_if off in rw none_here (omega arith)

-- some lines, and then others
pub adds-append : (o : Opening) (limit : ℕ) (held : Held) (src : ℕ) (seen seen' seen'' : List Entry) (xs ys : List Line)
    → Adds o limit held src seen seen' xs → Adds o limit held src seen' seen'' ys → Adds o limit held src seen seen'' (xs ++ ys)
adds-append o limit held src seen seen' seen'' xs ys first second = record {
  since = first.since ++ second.since;
  grown = second.grown ∙ (ap (λ (h : List Entry). h ++ second.since) first.grown ∙ append_assoc seen first.since second.since);
  mine = flat_map-append line_entries xs ys ∙ (ap (λ (h : List Entry). h ++ entries ys) first.mine
      ∙ (ap (λ (h : List Entry). of first.since src ++ h) second.mine ∙ sym (of-append first.since second.since src)));
  free = free-append (without src held) first.since second.since first.free second.free;
  paid = paid;
}
  where
    later : end o seen' ≡ end_from (end o seen) first.since
    later = ap (end o) first.grown ∙ end_from-append _ seen first.since

    paid : (g : ℕ) → limit * retried o.region (xs ++ ys) g ≤ hits o seen (first.since ++ second.since) g held
    paid g =
        let all = hits-append o (end o seen) first.since second.since g held in
        let then = ap (λ (m : _). hits_from o m second.since g held) later in
        let count = retried-append o.region xs ys g in
        let a = first.paid g in
        let b = second.paid g in
        rw count (omega arith)

-- no request
pub executed_none : (o : Opening) (policy : Policy) (limit : ℕ) (held : Held) (src : ℕ) (seen : List Entry) → IsExecuted o policy limit held src seen seen [] []
executed_none o policy limit held src seen =
    executed_from o policy limit held src seen seen [] [] (adds_none o limit held src seen) (stretches_none o policy limit held seen)

-- some requests, and then others
pub executed-append : (o : Opening) (policy : Policy) (limit : ℕ) (held : Held) (src : ℕ) (seen seen' seen'' : List Entry) (qs rs : List Request) (xs ys : List Line)
    → IsExecuted o policy limit held src seen seen' qs xs → IsExecuted o policy limit held src seen' seen'' rs ys
    → IsExecuted o policy limit held src seen seen'' (qs ++ rs) (xs ++ ys)
executed-append o policy limit held src seen seen' seen'' qs rs xs ys first second =
    executed_from o policy limit held src seen seen'' (qs ++ rs) (xs ++ ys)
    (adds-append o limit held src seen seen' seen'' xs ys (adds_of o policy limit held src seen seen' qs xs first) (adds_of o policy limit held src seen' seen'' rs ys second))
    (stretches-append o policy limit held seen seen' seen'' qs rs xs ys first.stretches second.stretches)
