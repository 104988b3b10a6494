-- what a call shows a caller whose seat holds every number, or a part of them
use Rattle.std.proofs.Common.{◌==◌, eq-eqb, ◌≡◌, ℕ, ◌≤◌, true, List, [], ◌∷◌, ◌++◌, sym, ap, ◌∙◌, subst, arith, append_assoc, append-nil}
use Rattle.std.proofs.lemmas.Bool.{cond-true, lt-ltb}
use Rattle.std.proofs.lemmas.List.{append_cancel_left}
use Rattle.chi_fields.specs.Extent.{granule_of}
use Rattle.chi_fields.specs.Access.{Access}
use Rattle.chi_lanes.specs.After.{answer}
use Rattle.chi_lanes.specs.declared.reply.Reply.{Reply}
use Rattle.chi_history.specs.declared.entry.Entry.{Entry}
use Rattle.chi_history.specs.declared.opening.Opening.{Opening}
use Rattle.chi_history.specs.NumberSets.{Held, below, nobody}
use Rattle.chi_history.specs.History.{IsFreeOf, IsLegal, IsLegalEntry, end, hits, hits_from, of, opening_memory}
use Rattle.chi_history.specs.HomeClauses.{Completes, Joins, Retries, entry}
use Rattle.chi_history.proofs.HistoryLemmas.{free-all, free-append, legal-back, legal-front, legal_entry, of-append, of-free}

-- nothing of others comes in where a seat holds every number
none_of_others : (o : Opening) (held : Held) (seen mid : List Entry) → held ≡ below o.requesters → IsLegal o (seen ++ mid) → IsFreeOf held mid → mid ≡ []
none_of_others o held seen mid all legal free =
    free-all o (end o seen) held mid (λ r known. ap (λ (k : Held). k r) all ∙ lt-ltb r o.requesters known) (legal-back o (opening_memory o) seen mid legal) free

-- the history has one entry more, and its reply is the answer at the end of what was seen
pub completes_alone : (o : Opening) (held : Held) (seen seen' : List Entry) (src : ℕ) (access : Access) (reply : Reply) (lost : ℕ)
    → held ≡ below o.requesters → IsLegal o seen' → Completes o held seen seen' src access reply lost
    → (seen' ≡ seen ++ entry src access reply ∷ []) × (reply ≡ answer access (end o seen))
completes_alone o held seen seen' src access reply lost all legal done = (grown, last.answered)
  where
    whole : IsLegal o ((seen ++ done.0) ++ entry src access reply ∷ [])
    whole = subst (IsLegal o) done.1 legal

    none_came : done.0 ≡ []
    none_came = none_of_others o held seen done.0 all (legal-front o (opening_memory o) (seen ++ done.0) (entry src access reply ∷ []) whole) done.2

    grown : seen' ≡ seen ++ entry src access reply ∷ []
    grown = done.1 ∙ ap (λ (es : List Entry). es ++ entry src access reply ∷ []) (ap (λ (mid : List Entry). seen ++ mid) none_came ∙ append-nil seen)

    last : IsLegalEntry o (end o seen) (entry src access reply)
    last = legal_entry o (end o seen) (entry src access reply) (legal-back o (opening_memory o) seen (entry src access reply ∷ []) (subst (IsLegal o) grown legal))

-- a seat that holds every number is never answered by RetryAck
pub never_retried : (o : Opening) (limit : ℕ) (held : Held) (seen seen' : List Entry) (access : Access) (lost : ℕ)
    → held ≡ below o.requesters → IsLegal o seen' → Retries o held seen seen' access lost → lost ≡ limit → 1 ≤ limit → ⊥
unfolding hits_from
never_retried o limit held seen seen' access lost all legal retried same some =
    let none_came = none_of_others o held seen retried.0 all (subst (IsLegal o) retried.1 legal) retried.2 in
    let no_hit : lost ≤ 0 = subst (λ (mid : List Entry). lost ≤ hits o seen mid (granule_of access.addr o.region) nobody) none_came retried.3 in
    omega arith

-- what came before a RetryAck and what came after it
pub done_after_retry : (o : Opening) (held : Held) (seen retried seen' : List Entry) (src : ℕ) (access : Access) (reply : Reply) (mid more : List Entry)
    → retried ≡ seen ++ mid → IsFreeOf held mid → seen' ≡ (retried ++ more) ++ entry src access reply ∷ [] → IsFreeOf held more
    → (between : List Entry) × (seen' ≡ (seen ++ between) ++ entry src access reply ∷ []) × IsFreeOf held between
done_after_retry o held seen retried seen' src access reply mid more before free_before after free_after = (
  mid ++ more,
  after ∙ ap (λ (es : List Entry). es ++ entry src access reply ∷ []) (ap (λ (es : List Entry). es ++ more) before ∙ append_assoc seen mid more),
  free-append held mid more free_before free_after,
)

-- the one entry of a requester between stretches of others
of-own : (held : Held) (before : List Entry) (e : Entry) (behind : List Entry) (r : ℕ) → e.src ≡ r → held r ≡ true → IsFreeOf held before
    → IsFreeOf held behind → of (before ++ e ∷ behind) r ≡ e ∷ []
unfolding of
of-own held before e behind r mine holds free_before free_behind =
    of-append before (e ∷ behind) r
    ∙ (ap (λ (es : List Entry). es ++ of (e ∷ behind) r) (of-free held before r holds free_before)
    ∙ (cond-true (e.src == r) (e ∷ of behind r) (of behind r) (eq-eqb e.src r mine)
    ∙ ap (λ (es : List Entry). e ∷ es) (of-free held behind r holds free_behind)))

-- one stretch after what was seen, with the entry in it
stretch : (seen mid : List Entry) (e : Entry) (rest : List Entry) → ((seen ++ mid) ++ e ∷ []) ++ rest ≡ seen ++ (mid ++ e ∷ rest)
stretch seen mid e rest = append_assoc (seen ++ mid) (e ∷ []) rest ∙ append_assoc seen mid (e ∷ rest)

-- two seats that served apart and were joined: what was added has the one entry of each
pub served_apart : (seen one_seen other_seen seen' : List Entry) (one_held other_held : Held) (one_mid other_mid : List Entry) (e f : Entry) (one other : ℕ)
    → e.src ≡ one → one_held one ≡ true → one_seen ≡ (seen ++ one_mid) ++ e ∷ [] → IsFreeOf one_held one_mid
    → f.src ≡ other → other_held other ≡ true → other_seen ≡ (seen ++ other_mid) ++ f ∷ [] → IsFreeOf other_held other_mid
    → Joins other_held other_seen one_held one_seen seen'
    → (since : List Entry) × (seen' ≡ seen ++ since) × (of since one ≡ e ∷ []) × (of since other ≡ f ∷ [])
served_apart seen one_seen other_seen seen' one_held other_held one_mid other_mid e f one other mine holds one_is one_free theirs other_holds other_is other_free joins = (
  other_mid ++ f ∷ joins.more,
  by_other,
  ap (λ (es : List Entry). of es one) (append_cancel_left seen (other_mid ++ f ∷ joins.more) (one_mid ++ e ∷ joins.other_more) (sym by_other ∙ by_one))
      ∙ of-own one_held one_mid e joins.other_more one mine holds one_free joins.other_free,
  of-own other_held other_mid f joins.more other theirs other_holds other_free joins.free,
)
  where
    by_other : seen' ≡ seen ++ (other_mid ++ f ∷ joins.more)
    by_other = joins.grown ∙ (ap (λ (es : List Entry). es ++ joins.more) other_is ∙ stretch seen other_mid f joins.more)

    by_one : seen' ≡ seen ++ (one_mid ++ e ∷ joins.other_more)
    by_one = joins.other_grown ∙ (ap (λ (es : List Entry). es ++ joins.other_more) one_is ∙ stretch seen one_mid e joins.other_more)
