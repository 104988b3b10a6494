-- what is known agrees after one flit more
use Rattle.std.specs.Prelude.{◌==◌, ◌&&◌, ◌⊎◌, if◌then◌else◌}
use Rattle.std.proofs.Common.{◌≡◌, ℕ, ◌+◌, Bool, true, false, Option, Some, inl, inr, refl, sym, ap, subst, ◌∙◌, eqb-true, eq-eqb, arith}
use Rattle.std.proofs.lemmas.Bool.{and_parts, or_right, false≢true}
use Rattle.std.proofs.lemmas.Option.{same_Some}
use Rattle.chi_flits.specs.declared.flit.DataFlit.{DataFlit}
use Rattle.chi_flits.specs.declared.flit.FlitKind.{FlitKind}
use Rattle.chi_flits.specs.declared.flit.FlitKind.TheVariants as kind
use Rattle.chi_flits.specs.declared.flit.RequestFlit.{RequestFlit}
use Rattle.chi_flits.specs.declared.transaction.Transaction.{Transaction}
use Rattle.chi_flits.specs.declared.transfer.Transfer.{Transfer}
use Rattle.chi_flits.specs.Answers.{key}
use Rattle.chi_flits.specs.Effects.{opened, transaction_after, transfer_after, with_answer}
use Rattle.chi_flits.specs.Opcodes.{is_read_data, takes_txn}
use Rattle.chi_flits.specs.Requests.{is_told}
use Rattle.chi_flits.proofs.Known.{Came, Follows, IsKnown, Knowledge, came_from, follows_so, given_below, kept_after, places_after, requests_after}

-- what a test put in the place of what was there
pub put_or : {A : Type 0} (b : Bool) (x : A) (o : Option A) (y : A) → (if b then Some x else o) ≡ Some y → ((b ≡ true) × (x ≡ y)) ⊎ ((b ≡ false) × (o ≡ Some y))
put_or true x o y is = inl (refl, same_Some x y is)
put_or false x o y is = inr (refl, is)

module _ (knowledge : Knowledge) where
  open knowledge use {count, requests, transactions, transfers, known}

  -- what is known after a flit
  abbrev pub KnownAfter : FlitKind → Type 0
  KnownAfter f = IsKnown (count + 1) (requests_after f count requests) (λ k. transaction_after f count transfers k (transactions k)) (λ d. transfer_after f transactions d (transfers d))

  pub after_request : (q : RequestFlit) → KnownAfter (kind.Request q)
  after_request q = record {
    places = places_after (kind.Request q) count requests known.places;
    taken = λ k t is. taken k t (put_or (takes_txn q.opcode && key q.src q.txn == k) (opened count q) (transactions k) t is);
    given = λ d w is. kept_after (kind.Request q) count requests known.places w.place w.request (known.given d w is);
    has_dbid = λ k t d w is held same told. has_dbid k t d w (put_or (takes_txn q.opcode && key q.src q.txn == k) (opened count q) (transactions k) t is) held same told;
    one_dbid = known.one_dbid;
    dropped = λ k t is told drop. dropped k t (put_or (takes_txn q.opcode && key q.src q.txn == k) (opened count q) (transactions k) t is) told drop;
  }
    where
      taken : (k : ℕ) (t : Transaction) → (((takes_txn q.opcode && key q.src q.txn == k) ≡ true) × (opened count q ≡ t)) ⊎ (((takes_txn q.opcode && key q.src q.txn == k) ≡ false) × (transactions k ≡ Some t))
          → (requests_after (kind.Request q) count requests t.place ≡ Some t.request) × (key t.request.src t.request.txn ≡ k)
      taken k t (inl is) =
          subst (λ (t : Transaction). (requests_after (kind.Request q) count requests t.place ≡ Some t.request) × (key t.request.src t.request.txn ≡ k)) is.1
          (ap (λ b. if b then Some q else requests count) (eq-eqb count count refl), eqb-true (key q.src q.txn) k (and_parts (takes_txn q.opcode) (key q.src q.txn == k) is.0).1)
      taken k t (inr is) = let old = known.taken k t is.1 in (kept_after (kind.Request q) count requests known.places t.place t.request old.0, old.1)

      has_dbid : (k : ℕ) (t : Transaction) (d : ℕ) (w : Transfer)
          → (((takes_txn q.opcode && key q.src q.txn == k) ≡ true) × (opened count q ≡ t)) ⊎ (((takes_txn q.opcode && key q.src q.txn == k) ≡ false) × (transactions k ≡ Some t))
          → transfers d ≡ Some w → t.place ≡ w.place → is_told t.request ≡ true → t.has_dbid ≡ true
      has_dbid k t d w (inl is) held same told =
          let at : count ≡ t.place = ap (λ (t : Transaction). t.place) is.1 in
          let below = given_below knowledge d w held in absurd (omega arith)
      has_dbid k t d w (inr is) held same told = known.has_dbid k t d w is.1 held same told

      dropped : (k : ℕ) (t : Transaction)
          → (((takes_txn q.opcode && key q.src q.txn == k) ≡ true) × (opened count q ≡ t)) ⊎ (((takes_txn q.opcode && key q.src q.txn == k) ≡ false) × (transactions k ≡ Some t))
          → is_told t.request ≡ true → t.is_dropped ≡ true → t.has_dbid ≡ true
      dropped k t (inl is) told drop = absurd (false≢true (ap (λ (t : Transaction). t.is_dropped) is.1 ∙ drop))
      dropped k t (inr is) told drop = known.dropped k t is.1 told drop

  -- a TxnID whose request stays
  module _ (f : FlitKind) (k : ℕ) (b : Bool) (g : Transaction → Transaction) (keeps : (t : Transaction) → Follows t (g t)) (now : Transaction) (c : Came b g (transactions k) now) where
    pub follows : Follows c.before now
    follows = follows_so b g (transactions k) now keeps c

    pub told_before : is_told now.request ≡ true → is_told c.before.request ≡ true
    told_before told = ap (λ (q : RequestFlit). is_told q) (sym follows.request) ∙ told

    pub still_taken : (requests_after f count requests now.place ≡ Some now.request) × (key now.request.src now.request.txn ≡ k)
    still_taken =
        let old = known.taken k c.before c.was in (
          ap (requests_after f count requests) follows.place ∙ (kept_after f count requests known.places c.before.place c.before.request old.0 ∙ ap Some (sym follows.request)),
          ap (λ (q : RequestFlit). key q.src q.txn) follows.request ∙ old.1,
        )

    pub still_dbid : (d : ℕ) (w : Transfer) → transfers d ≡ Some w → now.place ≡ w.place → is_told now.request ≡ true → now.has_dbid ≡ true
    still_dbid d w held same told = follows.dbid (known.has_dbid k c.before d w c.was held (sym follows.place ∙ same) (told_before told))

    pub dropped_before : (c.before.is_dropped ≡ true) → is_told now.request ≡ true → now.has_dbid ≡ true
    dropped_before drop told = follows.dbid (known.dropped k c.before c.was (told_before told) drop)

  pub answer_follows : (f : FlitKind) (t : Transaction) → Follows t (with_answer f t)
  answer_follows f t = record { request = refl; place = refl; dbid = λ is. or_right _ t.has_dbid is }

  -- an answer drops nothing
  pub same_drop : (f : FlitKind) (b : Bool) (o : Option Transaction) (now : Transaction) (c : Came b (with_answer f) o now) → now.is_dropped ≡ true → c.before.is_dropped ≡ true
  same_drop f b o now c drop = by_case c.by
    where
      by_case : ((b ≡ true) × (with_answer f c.before ≡ now)) ⊎ ((b ≡ false) × (c.before ≡ now)) → c.before.is_dropped ≡ true
      by_case (inl is) = ap (λ (t : Transaction). t.is_dropped) is.1 ∙ drop
      by_case (inr is) = ap (λ (t : Transaction). t.is_dropped) is.1 ∙ drop

  pub after_read : (d : DataFlit) → KnownAfter (kind.ReadData d)
  after_read d = record {
    places = places_after f count requests known.places;
    taken = λ k t is. still_taken f k (test k) (with_answer f) (answer_follows f) t (came_from (test k) (with_answer f) (transactions k) t is);
    given = λ e w is. kept_after f count requests known.places w.place w.request (known.given e w is);
    has_dbid = λ k t e w is held same told. still_dbid f k (test k) (with_answer f) (answer_follows f) t (came_from (test k) (with_answer f) (transactions k) t is) e w held same told;
    one_dbid = known.one_dbid;
    dropped = λ k t is told drop.
        let c = came_from (test k) (with_answer f) (transactions k) t is in
        dropped_before f k (test k) (with_answer f) (answer_follows f) t c (same_drop f (test k) (transactions k) t c drop) told;
  }
    where
      f : FlitKind
      f = kind.ReadData d

      test : ℕ → Bool
      test k = is_read_data d.opcode && key d.node d.txn == k
