-- what is known agrees after a response, and after data to the home
use Rattle.std.specs.Prelude.{◌==◌, ◌&&◌, ◌⊎◌, if◌then◌else◌, option_map}
use Rattle.std.proofs.Common.{◌≡◌, ℕ, Bool, true, false, Option, Some, None, inl, inr, refl, sym, ap, subst, ◌∙◌, eqb-true, eq-eqb}
use Rattle.std.proofs.lemmas.Bool.{and_from, and_parts, or_cases, or_left, true≢false, false≢true}
use Rattle.std.proofs.lemmas.Option.{none-some, same_Some}
use Rattle.chi_flits.specs.declared.flit.DataFlit.{DataFlit}
use Rattle.chi_flits.specs.declared.flit.FlitKind.{FlitKind}
use Rattle.chi_flits.specs.declared.flit.FlitKind.TheVariants as kind
use Rattle.chi_flits.specs.declared.flit.ResponseFlit.{ResponseFlit}
use Rattle.chi_flits.specs.declared.transaction.Transaction.{Transaction}
use Rattle.chi_flits.specs.declared.transfer.Transfer.{Transfer}
use Rattle.chi_flits.specs.Answers.{drops, key}
use Rattle.chi_flits.specs.Effects.{begun, dropped_by, is_of, with_answer, with_write}
use Rattle.chi_flits.specs.Faults.{fault_with, response_fault}
use Rattle.chi_flits.specs.Opcodes.{gives_dbid, is_response, is_write_data}
use Rattle.chi_flits.specs.Requests.{is_told}
use Rattle.chi_flits.proofs.Fits.{fits_response, gives_response}
use Rattle.chi_flits.proofs.Known.{Came, Follows, Knowledge, Moves, came_from, kept_after, moves_so, places_after, requests_after, same_key, same_request}
use Rattle.chi_flits.proofs.KnownMore.{KnownAfter, after_read, after_request, answer_follows, dropped_before, same_drop, still_dbid, still_taken}

-- the request to which a DBID was given just now
pub record Begun (o : Option Transaction) (w : Transfer) : Type 0 where
  pub request : Transaction
  pub was : o ≡ Some request
  pub is : begun request ≡ w

pub given_from : (b : Bool) (o : Option Transaction) (old : Option Transfer) (w : Transfer) → (if b then option_map begun o else old) ≡ Some w
    → ((b ≡ true) × Begun o w) ⊎ ((b ≡ false) × (old ≡ Some w))
given_from true None old w is = absurd (none-some w is)
given_from true (Some t) old w is = inl (refl, record { request = t; was = refl; is = same_Some (begun t) w is })
given_from false o old w is = inr (refl, is)

module _ (knowledge : Knowledge) where
  open knowledge use {count, requests, transactions, transfers, known}

  module _ (r : ResponseFlit) (fits : response_fault r (transactions (key r.tgt r.txn)) (transfers (key r.tgt r.dbid)) ≡ None) where
    f : FlitKind
    f = kind.Response r

    -- the DBID is given, and to this request
    abbrev gives : ℕ → Bool
    gives d = gives_dbid r.opcode && key r.tgt r.dbid == d

    abbrev answers : ℕ → Bool
    answers k = is_response r.opcode && key r.tgt r.txn == k

    abbrev From : ℕ → Transfer → Type 0
    From d w = ((gives d ≡ true) × Begun (transactions (key r.tgt r.txn)) w) ⊎ ((gives d ≡ false) × (transfers d ≡ Some w))

    -- it had none before
    no_dbid : (d : ℕ) (t : Transaction) → gives d ≡ true → transactions (key r.tgt r.txn) ≡ Some t → is_told t.request ≡ true → t.has_dbid ≡ false
    no_dbid d t gives_it at told =
        let gives_one = (and_parts (gives_dbid r.opcode) (key r.tgt r.dbid == d) gives_it).0 in
        ((fits_response r t (transfers (key r.tgt r.dbid)) (ap (λ (o : Option Transaction). response_fault r o (transfers (key r.tgt r.dbid))) (sym at) ∙ fits)
        (gives_response r.opcode gives_one) told).gives gives_one).0

    new_dbid : (k : ℕ) (t : Transaction) (d : ℕ) (w : Transfer) (c : Came (answers k) (with_answer (kind.Response r)) (transactions k) t) → From d w → t.place ≡ w.place
        → is_told t.request ≡ true → t.has_dbid ≡ true
    new_dbid k t d w c (inr old) same told =
        still_dbid knowledge (kind.Response r) k (answers k) (with_answer (kind.Response r))
        (answer_follows knowledge (kind.Response r)) t c d w old.1 same told
    new_dbid k t d w c (inl new) same told = by_case c.by
      where
        gives_one : gives_dbid r.opcode ≡ true
        gives_one = (and_parts (gives_dbid r.opcode) (key r.tgt r.dbid == d) new.0).0

        place : c.before.place ≡ new.1.request.place
        place = before_place c.by ∙ (same ∙ ap (λ (w : Transfer). w.place) (sym new.1.is))
          where
            before_place : ((answers k ≡ true) × (with_answer (kind.Response r) c.before ≡ t)) ⊎ ((answers k ≡ false) × (c.before ≡ t)) → c.before.place ≡ t.place
            before_place (inl is) = ap (λ (t : Transaction). t.place) is.1
            before_place (inr is) = ap (λ (t : Transaction). t.place) is.1

        own : answers k ≡ true
        own = and_from (is_response r.opcode) (key r.tgt r.txn == k) (gives_response r.opcode gives_one)
            (eq-eqb (key r.tgt r.txn) k (sym (same_key knowledge k c.before (key r.tgt r.txn) new.1.request c.was new.1.was place)))

        by_case : ((answers k ≡ true) × (with_answer (kind.Response r) c.before ≡ t)) ⊎ ((answers k ≡ false) × (c.before ≡ t)) → t.has_dbid ≡ true
        by_case (inl is) = ap (λ (t : Transaction). t.has_dbid) (sym is.1) ∙ or_left (gives_dbid r.opcode) c.before.has_dbid gives_one
        by_case (inr is) = absurd (true≢false (sym own ∙ is.0))

    told_begun : (w : Transfer) (n : Begun (transactions (key r.tgt r.txn)) w) → is_told w.request ≡ true → is_told n.request.request ≡ true
    told_begun w n told = ap (λ (w : Transfer). is_told w.request) n.is ∙ told

    one : (d : ℕ) (w : Transfer) (e : ℕ) (v : Transfer) → From d w → From e v → w.place ≡ v.place → is_told w.request ≡ true → d ≡ e
    one d w e v (inl new) (inl also) same told =
        sym (eqb-true (key r.tgt r.dbid) d (and_parts (gives_dbid r.opcode) (key r.tgt r.dbid == d) new.0).1)
        ∙ eqb-true (key r.tgt r.dbid) e (and_parts (gives_dbid r.opcode) (key r.tgt r.dbid == e) also.0).1
    one d w e v (inl new) (inr old) same told =
        let t = new.1.request in
        let is = told_begun w new.1 told in
        absurd (true≢false (sym (known.has_dbid (key r.tgt r.txn) t e v new.1.was old.1 (ap (λ (w : Transfer). w.place) new.1.is ∙ same) is) ∙ no_dbid d t new.0 new.1.was is))
    one d w e v (inr old) (inl new) same told =
        let t = new.1.request in
        let place : t.place ≡ w.place = ap (λ (w : Transfer). w.place) new.1.is ∙ sym same in
        let is : is_told t.request ≡ true = ap is_told (same_request knowledge (key r.tgt r.txn) t d w new.1.was old.1 place) ∙ told in
        absurd (true≢false (sym (known.has_dbid (key r.tgt r.txn) t d w new.1.was old.1 place is) ∙ no_dbid e t new.0 new.1.was is))
    one d w e v (inr old) (inr also) same told = known.one_dbid d w e v old.1 also.1 same told

    given_now : (d : ℕ) (w : Transfer) → From d w → requests_after (kind.Response r) count requests w.place ≡ Some w.request
    given_now d w (inl new) =
        subst (λ (w : Transfer). requests_after (kind.Response r) count requests w.place ≡ Some w.request) new.1.is
        (kept_after (kind.Response r) count requests known.places new.1.request.place new.1.request.request (known.taken (key r.tgt r.txn) new.1.request new.1.was).0)
    given_now d w (inr old) = kept_after (kind.Response r) count requests known.places w.place w.request (known.given d w old.1)

    pub after_response : KnownAfter knowledge (kind.Response r)
    after_response = record {
      places = places_after (kind.Response r) count requests known.places;
      taken = λ k t is. still_taken knowledge (kind.Response r) k (answers k) (with_answer (kind.Response r))
          (answer_follows knowledge (kind.Response r)) t (came_from (answers k) (with_answer (kind.Response r)) (transactions k) t is);
      given = λ d w is. given_now d w (given_from (gives d) (transactions (key r.tgt r.txn)) (transfers d) w is);
      has_dbid = λ k t d w is held same told. new_dbid k t d w (came_from (answers k) (with_answer (kind.Response r)) (transactions k) t is)
          (given_from (gives d) (transactions (key r.tgt r.txn)) (transfers d) w held) same told;
      one_dbid = λ d w e v held also same told. one d w e v (given_from (gives d) (transactions (key r.tgt r.txn)) (transfers d) w held)
          (given_from (gives e) (transactions (key r.tgt r.txn)) (transfers e) v also) same told;
      dropped = λ k t is told drop.
          let c = came_from (answers k) (with_answer (kind.Response r)) (transactions k) t is in
          dropped_before knowledge (kind.Response r) k (answers k) (with_answer (kind.Response r))
          (answer_follows knowledge (kind.Response r)) t c
          (same_drop knowledge (kind.Response r) (answers k) (transactions k) t c drop) told;
    }

  module _ (x : DataFlit) where
    abbrev writes : ℕ → Bool
    writes d = is_write_data x.opcode && key x.node x.txn == d

    abbrev dropping : Bool
    dropping = is_write_data x.opcode && drops x

    abbrev sent : Option Transfer
    sent = transfers (key x.node x.txn)

    drop_follows : (k : ℕ) (t : Transaction) → Follows t (dropped_by k sent t)
    drop_follows k t = record { request = refl; place = refl; dbid = λ is. is }

    write_moves : (w : Transfer) → Moves w (with_write x w)
    write_moves w = record { request = refl; place = refl }

    moves : (d : ℕ) (w : Transfer) (c : Came (writes d) (with_write x) (transfers d) w) → Moves c.before w
    moves d w c = moves_so (writes d) (with_write x) (transfers d) w write_moves c

    is_of_sent : (k : ℕ) (t : Transaction) (o : Option Transfer) → sent ≡ o → transactions k ≡ Some t → is_of k t o ≡ true → is_told t.request ≡ true → t.has_dbid ≡ true
    is_of_sent k t None at was of told = absurd (false≢true of)
    is_of_sent k t (Some w) at was of told =
        known.has_dbid k t (key x.node x.txn) w was at
        (sym (eqb-true w.place t.place (and_parts (key w.request.src w.request.txn == k) (w.place == t.place) of).1)) told

    drop_dbid : (k : ℕ) (t : Transaction) (c : Came dropping (dropped_by k sent) (transactions k) t) → t.is_dropped ≡ true → is_told t.request ≡ true → t.has_dbid ≡ true
    drop_dbid k t c drop told = by_case c.by
      where
        by_drop : is_told c.before.request ≡ true → (is_of k c.before sent ≡ true) ⊎ (c.before.is_dropped ≡ true) → c.before.has_dbid ≡ true
        by_drop is (inl of) = is_of_sent k c.before sent refl c.was of is
        by_drop is (inr old) = known.dropped k c.before c.was is old

        by_case : ((dropping ≡ true) × (dropped_by k sent c.before ≡ t)) ⊎ ((dropping ≡ false) × (c.before ≡ t)) → t.has_dbid ≡ true
        by_case (inl is) =
            ap (λ (t : Transaction). t.has_dbid) (sym is.1)
            ∙ by_drop (ap (λ (t : Transaction). is_told t.request) is.1 ∙ told) (or_cases (is_of k c.before sent) c.before.is_dropped (ap (λ (t : Transaction). t.is_dropped) is.1 ∙ drop))
        by_case (inr is) =
            ap (λ (t : Transaction). t.has_dbid) (sym is.1)
            ∙ known.dropped k c.before c.was (ap (λ (t : Transaction). is_told t.request) is.1 ∙ told) (ap (λ (t : Transaction). t.is_dropped) is.1 ∙ drop)

    given_still : (d : ℕ) (w : Transfer) (c : Came (writes d) (with_write x) (transfers d) w) → requests_after (kind.WriteData x) count requests w.place ≡ Some w.request
    given_still d w c =
        let m = moves d w c in
        ap (requests_after (kind.WriteData x) count requests) m.place
        ∙ (kept_after (kind.WriteData x) count requests known.places c.before.place c.before.request (known.given d c.before c.was) ∙ ap Some (sym m.request))

    one_still : (d : ℕ) (w : Transfer) (e : ℕ) (v : Transfer) → Came (writes d) (with_write x) (transfers d) w → Came (writes e) (with_write x) (transfers e) v → w.place ≡ v.place
        → is_told w.request ≡ true → d ≡ e
    one_still d w e v c b same told =
        let m = moves d w c in
        let n = moves e v b in
        known.one_dbid d c.before e b.before c.was b.was (sym m.place ∙ (same ∙ n.place)) (ap is_told (sym m.request) ∙ told)

    dbid_still : (k : ℕ) (t : Transaction) (d : ℕ) (w : Transfer) → Came dropping (dropped_by k sent) (transactions k) t → Came (writes d) (with_write x) (transfers d) w → t.place ≡ w.place
        → is_told t.request ≡ true → t.has_dbid ≡ true
    dbid_still k t d w c b same told =
        still_dbid knowledge (kind.WriteData x) k dropping (dropped_by k sent) (drop_follows k) t c d b.before b.was (same ∙ (moves d w b).place) told

    pub after_write : KnownAfter knowledge (kind.WriteData x)
    after_write = record {
      places = places_after (kind.WriteData x) count requests known.places;
      taken = λ k t is. still_taken knowledge (kind.WriteData x) k dropping (dropped_by k sent) (drop_follows k) t
          (came_from dropping (dropped_by k sent) (transactions k) t is);
      given = λ d w is. given_still d w (came_from (writes d) (with_write x) (transfers d) w is);
      has_dbid = λ k t d w is held same told. dbid_still k t d w (came_from dropping (dropped_by k sent) (transactions k) t is)
          (came_from (writes d) (with_write x) (transfers d) w held) same told;
      one_dbid = λ d w e v held also same told. one_still d w e v (came_from (writes d) (with_write x) (transfers d) w held)
          (came_from (writes e) (with_write x) (transfers e) v also) same told;
      dropped = λ k t is told drop. drop_dbid k t (came_from dropping (dropped_by k sent) (transactions k) t is) drop told;
    }

  pub known_after : (f : FlitKind) → fault_with transactions transfers f ≡ None → KnownAfter knowledge f
  known_after (kind.Request q) fits = after_request knowledge q
  known_after (kind.Response r) fits = after_response r fits
  known_after (kind.ReadData d) fits = after_read knowledge d
  known_after (kind.WriteData d) fits = after_write d
