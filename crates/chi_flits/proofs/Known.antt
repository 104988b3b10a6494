-- what is known of TxnIDs and DBIDs agrees: each request is the one at its place, and has one DBID
use Rattle.std.specs.Prelude.{◌<◌, ◌==◌, ◌⊎◌, if◌then◌else◌, option_map}
use Rattle.std.proofs.Common.{◌≡◌, ℕ, ◌+◌, Bool, true, false, Option, Some, None, inl, inr, refl, sym, ap, subst, ◌∙◌, eqb-true, ne_eqb, arith}
use Rattle.std.proofs.lemmas.Option.{none-some, same_Some}
use Rattle.chi_flits.specs.declared.flit.FlitKind.{FlitKind}
use Rattle.chi_flits.specs.declared.flit.FlitKind.TheVariants as kind
use Rattle.chi_flits.specs.declared.flit.RequestFlit.{RequestFlit}
use Rattle.chi_flits.specs.declared.transaction.Transaction.{Transaction}
use Rattle.chi_flits.specs.declared.transfer.Transfer.{Transfer}
use Rattle.chi_flits.specs.Answers.{key}
use Rattle.chi_flits.specs.Requests.{is_told}

-- What is known after so many flits, and the request at each place among them. What holds a TxnID or a DBID is the request at its
-- place. One that is told has one DBID at most: it has it where it is known by one, and where its data dropped it.
pub record IsKnown (count : ℕ) (requests : ℕ → Option RequestFlit) (transactions : ℕ → Option Transaction) (transfers : ℕ → Option Transfer) : Type 0 where
  pub places : (p : ℕ) (q : RequestFlit) → requests p ≡ Some q → p < count
  pub taken : (k : ℕ) (t : Transaction) → transactions k ≡ Some t → (requests t.place ≡ Some t.request) × (key t.request.src t.request.txn ≡ k)
  pub given : (d : ℕ) (w : Transfer) → transfers d ≡ Some w → requests w.place ≡ Some w.request
  pub has_dbid : (k : ℕ) (t : Transaction) (d : ℕ) (w : Transfer) → transactions k ≡ Some t → transfers d ≡ Some w → t.place ≡ w.place → is_told t.request ≡ true → t.has_dbid ≡ true
  pub one_dbid : (d : ℕ) (w : Transfer) (e : ℕ) (v : Transfer) → transfers d ≡ Some w → transfers e ≡ Some v → w.place ≡ v.place → is_told w.request ≡ true → d ≡ e
  pub dropped : (k : ℕ) (t : Transaction) → transactions k ≡ Some t → is_told t.request ≡ true → t.is_dropped ≡ true → t.has_dbid ≡ true

-- the whole of it
pub record Knowledge : Type 0 where
  pub count : ℕ
  pub requests : ℕ → Option RequestFlit
  pub transactions : ℕ → Option Transaction
  pub transfers : ℕ → Option Transfer
  pub known : IsKnown count requests transactions transfers

-- what was there before a change that a test makes
pub record Came {A : Type 0} (b : Bool) (g : A → A) (o : Option A) (y : A) : Type 0 where
  pub before : A
  pub was : o ≡ Some before
  pub by : ((b ≡ true) × (g before ≡ y)) ⊎ ((b ≡ false) × (before ≡ y))

pub came_from : {A : Type 0} (b : Bool) (g : A → A) (o : Option A) (y : A) → (if b then option_map g o else o) ≡ Some y → Came b g o y
came_from true g None y is = absurd (none-some y is)
came_from true g (Some x) y is = record { before = x; was = refl; by = inl (refl, same_Some (g x) y is) }
came_from false g o y is = record { before = y; was = is; by = inr (refl, refl) }

-- by whether it was changed
pub by_came : {A : Type 0} {b : Bool} {g : A → A} {o : Option A} {y : A} (P : A → Type 0) → ((x : A) → b ≡ true → o ≡ Some x → P (g x)) → (b ≡ false → o ≡ Some y → P y) → Came b g o y → P y
by_came {A} {b} {g} {o} {y} P changed kept c = by_case c.by
  where
    by_case : ((b ≡ true) × (g c.before ≡ y)) ⊎ ((b ≡ false) × (c.before ≡ y)) → P y
    by_case (inl is) = subst P is.1 (changed c.before is.0 c.was)
    by_case (inr is) = kept is.0 (c.was ∙ ap Some is.1)

-- a change leaves the request in its place, with its DBID
pub record Follows (before now : Transaction) : Type 0 where
  pub request : now.request ≡ before.request
  pub place : now.place ≡ before.place
  pub dbid : before.has_dbid ≡ true → now.has_dbid ≡ true

pub record Moves (before now : Transfer) : Type 0 where
  pub request : now.request ≡ before.request
  pub place : now.place ≡ before.place

follows_itself : (t : Transaction) → Follows t t
follows_itself t = record { request = refl; place = refl; dbid = λ is. is }

moves_itself : (w : Transfer) → Moves w w
moves_itself w = record { request = refl; place = refl }

pub follows_so : (b : Bool) (g : Transaction → Transaction) (o : Option Transaction) (now : Transaction) → ((t : Transaction) → Follows t (g t)) → (c : Came b g o now) → Follows c.before now
follows_so b g o now keeps c = by_case c.by
  where
    by_case : ((b ≡ true) × (g c.before ≡ now)) ⊎ ((b ≡ false) × (c.before ≡ now)) → Follows c.before now
    by_case (inl is) = subst (Follows c.before) is.1 (keeps c.before)
    by_case (inr is) = subst (Follows c.before) is.1 (follows_itself c.before)

pub moves_so : (b : Bool) (g : Transfer → Transfer) (o : Option Transfer) (now : Transfer) → ((t : Transfer) → Moves t (g t)) → (c : Came b g o now) → Moves c.before now
moves_so b g o now keeps c = by_case c.by
  where
    by_case : ((b ≡ true) × (g c.before ≡ now)) ⊎ ((b ≡ false) × (c.before ≡ now)) → Moves c.before now
    by_case (inl is) = subst (Moves c.before) is.1 (keeps c.before)
    by_case (inr is) = subst (Moves c.before) is.1 (moves_itself c.before)

-- what is known of one place
module _ (knowledge : Knowledge) where
  open knowledge use {count, requests, transactions, transfers, known}

  pub taken_below : (k : ℕ) (t : Transaction) → transactions k ≡ Some t → t.place < count
  taken_below k t is = known.places t.place t.request (known.taken k t is).0

  pub given_below : (d : ℕ) (w : Transfer) → transfers d ≡ Some w → w.place < count
  given_below d w is = known.places w.place w.request (known.given d w is)

  pub same_request : (k : ℕ) (t : Transaction) (d : ℕ) (w : Transfer) → transactions k ≡ Some t → transfers d ≡ Some w → t.place ≡ w.place → t.request ≡ w.request
  same_request k t d w at held same =
      same_Some t.request w.request (sym (known.taken k t at).0 ∙ (ap requests same ∙ known.given d w held))

  pub same_key : (k : ℕ) (t : Transaction) (j : ℕ) (u : Transaction) → transactions k ≡ Some t → transactions j ≡ Some u → t.place ≡ u.place → k ≡ j
  same_key k t j u at held same =
      let one : t.request ≡ u.request = same_Some t.request u.request (sym (known.taken k t at).0 ∙ (ap requests same ∙ (known.taken j u held).0)) in
      sym (known.taken k t at).1 ∙ (ap (λ (q : RequestFlit). key q.src q.txn) one ∙ (known.taken j u held).1)

  pub key_of : (k : ℕ) (t : Transaction) (d : ℕ) (w : Transfer) → transactions k ≡ Some t → transfers d ≡ Some w → t.place ≡ w.place → key w.request.src w.request.txn ≡ k
  key_of k t d w at held same =
      ap (λ (q : RequestFlit). key q.src q.txn) (sym (same_request k t d w at held same)) ∙ (known.taken k t at).1

-- the request that a flit is
abbrev pub request_in : FlitKind → Option RequestFlit
request_in (kind.Request q) = Some q
request_in _ = None

-- the request at each place with one flit more
abbrev pub requests_after : FlitKind → ℕ → (ℕ → Option RequestFlit) → ℕ → Option RequestFlit
requests_after f count requests p = if p == count then request_in f else requests p

pub places_after : (f : FlitKind) (count : ℕ) (requests : ℕ → Option RequestFlit) → ((p : ℕ) (q : RequestFlit) → requests p ≡ Some q → p < count)
    → (p : ℕ) (q : RequestFlit) → requests_after f count requests p ≡ Some q → p < count + 1
places_after f count requests places p q is = by_test (p == count) refl
  where
    by_test : (b : Bool) → (p == count) ≡ b → p < count + 1
    by_test true at = let same = eqb-true p count at in omega arith
    by_test false at =
        let below = places p q (subst (λ c. (if c then request_in f else requests p) ≡ Some q) at is) in omega arith

pub kept_after : (f : FlitKind) (count : ℕ) (requests : ℕ → Option RequestFlit) → ((p : ℕ) (q : RequestFlit) → requests p ≡ Some q → p < count)
    → (p : ℕ) (q : RequestFlit) → requests p ≡ Some q → requests_after f count requests p ≡ Some q
kept_after f count requests places p q is =
    let below = places p q is in
    ap (λ c. if c then request_in f else requests p) (ne_eqb p count (λ same. absurd (omega arith))) ∙ is
