-- tries one after another, and the lost ones among them
use Rattle.std.proofs.Common.{◌≡◌, ◌≢◌, ℕ, ◌+◌, ◌≤◌, MatchBool, List, [], ◌∷◌, ◌++◌, refl, sym, ap, subst, ◌∙◌, arith, append_assoc, append-nil, bit_xor, eq-eqb, ne_eqb, zero-le}
use Rattle.chi_fields.specs.Extent.{granule_of}
use Rattle.chi_fields.specs.Access.{Access}
use Rattle.chi_lanes.specs.declared.reply.Reply.{Reply}
use Rattle.chi_lanes.specs.Memory.{Memory}
use Rattle.chi_history.specs.declared.entry.Entry.{Entry}
use Rattle.chi_history.specs.declared.opening.Opening.{Opening}
use Rattle.chi_history.specs.NumberSets.{Held, nobody}
use Rattle.chi_history.specs.History.{IsFreeOf, IsLegal, end, hits, hits_from, opening_memory}
use Rattle.chi_history.specs.HomeClauses.{Completes, Retries, entry}
use Rattle.chi_history.specs.NumberLists.{has}
use Rattle.chi_history.proofs.HistoryLemmas.{end_from-append, free-append, hits-append}
use Rattle.chi_history.proofs.WordLemmas.{differs}
use Rattle.chi_rule.specs.declared.view.View.{View}
use Rattle.chi_rule.specs.Rule.{first_word, shown}
use Rattle.chi_rule.specs.StepFacts.{Adds, Exchanges, Looks, Replaces, Sees}
use Rattle.chi_rule.specs.Views.{knower}
use Rattle.chi_rule.proofs.StepFactLemmas.{Answers, added}

-- a seat after a try: it holds what it held
pub record IsTried (v w : View) : Type 0 where
  pub now : w ≡ knower v.opening v.held w.seen
  pub legal : IsLegal v.opening w.seen

-- hits of two histories that follow each other
hits-then : (o : Opening) (h xs ys : List Entry) (g : ℕ) → hits o h (xs ++ ys) g nobody ≡ hits o h xs g nobody + hits o (h ++ xs) ys g nobody
hits-then o h xs ys g =
    hits-append o (end o h) xs ys g nobody
    ∙ ap (λ (m : Memory). hits o h xs g nobody + hits_from o m ys g nobody) (sym (end_from-append (opening_memory o) h xs))

-- before the first try
pub lost_none : (o : Opening) (held : Held) (seen : List Entry) (access : Access) → Retries o held seen seen access 0
unfolding IsFreeOf
lost_none o held seen access = ([], sym (append-nil seen), tt, zero-le)

-- lost tries, and then more of them
pub then_lost : (o : Opening) (held : Held) (seen seen' seen'' : List Entry) (access : Access) (n m : ℕ) → Retries o held seen seen' access n
    → Retries o held seen' seen'' access m → Retries o held seen seen'' access (n + m)
then_lost o held seen seen' seen'' access n m first second =
    let g : ℕ = granule_of access.addr o.region in
    let xs : List Entry = first.0 in
    let ys : List Entry = second.0 in
    let more : m ≤ hits o (seen ++ xs) ys g nobody = subst (λ h. m ≤ hits o h ys g nobody) first.1 second.3 in
    let some : n ≤ hits o seen xs g nobody = first.3 in (
      xs ++ ys,
      second.1 ∙ (ap (λ l. l ++ ys) first.1 ∙ append_assoc seen xs ys),
      free-append held xs ys first.2 second.2,
      (let all = hits-then o seen xs ys g in rw all (omega arith)),
    )

-- lost tries, and then the entry
pub then_done : (o : Opening) (held : Held) (seen seen' seen'' : List Entry) (src : ℕ) (access : Access) (reply : Reply) (n m : ℕ) → Retries o held seen seen' access n
    → Completes o held seen' seen'' src access reply m → Completes o held seen seen'' src access reply (n + m)
then_done o held seen seen' seen'' src access reply n m first second =
    let t = then_lost o held seen seen' (seen' ++ second.0) access n m first (second.0, refl, second.2, second.3) in
    (t.0, second.1 ∙ ap (λ l. l ++ entry src access reply ∷ []) t.1, t.2, t.3)

-- a lost exchange: the word found is not the one that was loaded, so an entry between them changed the granule
pub missed : (u : View) (mid : List Entry) (w : View) (access : Access) (x y : ℕ) → Sees u mid w → x ≡ shown u.opening u.seen (granule_of access.addr u.opening.region)
    → y ≡ shown u.opening (u.seen ++ mid) (granule_of access.addr u.opening.region) → y ≢ x → Retries u.opening (has u.held) u.seen w.seen access 1
missed u mid w access x y sees loaded found differ =
    let o : Opening = u.opening in
    let g : ℕ = granule_of access.addr o.region in
    (mid, ap (λ (z : View). z.seen) sees.now, sees.free, differs o u.seen mid g (λ same. differ (found ∙ (ap (λ n. bit_xor n (first_word o g)) same ∙ sym loaded))))

-- after a look
seen_try : (v : View) (mid : List Entry) (w : View) → Sees v mid w → IsTried v w
seen_try v mid w sees = subst (λ (z : View). IsTried v z) (sym sees.now) (record { now = refl; legal = sees.legal })

-- after an entry
added_try : (v : View) (mid : List Entry) (src : ℕ) (access : Access) (w : View) → Adds v mid src access w → IsTried v w
added_try v mid src access w adds = subst (λ (z : View). IsTried v z) (sym adds.now) (record { now = refl; legal = adds.legal })

-- after an exchange of all words
pub replaced_try : (v : View) (words : List ℕ) (src : ℕ) (access : Access) (w : View) → Replaces v words src access w → IsTried v w
replaced_try v words src access w replaces = added_try v replaces.mid src access w replaces.adds

-- an exchange that found the word that was expected
won : (v : View) (first src : ℕ) (access : Access) (found : ℕ) (w : View) (x : Exchanges v first src access found w) → found ≡ first → Adds v x.mid src access w
won v first src access found w x hit = subst (λ b. MatchBool b (Adds v x.mid src access w) (Sees v x.mid w)) (eq-eqb found first hit) x.done

-- where it found another word
lost : (v : View) (first src : ℕ) (access : Access) (found : ℕ) (w : View) (x : Exchanges v first src access found w) → found ≢ first → Sees v x.mid w
lost v first src access found w x miss = subst (λ b. MatchBool b (Adds v x.mid src access w) (Sees v x.mid w)) (ne_eqb found first miss) x.done

-- a try that lost: its load, and an exchange that found another word
pub try_lost : (v u w : View) (g x src : ℕ) (access : Access) (found : ℕ) → g ≡ granule_of access.addr v.opening.region → Looks v g x u → Exchanges u x src access found w
    → found ≢ x → IsTried v w × Retries v.opening (has v.held) v.seen w.seen access 1
try_lost v u w g x src access found place looks exchange miss = at_knower u looks.sees.now exchange
  where
    at_knower : (z : View) → z ≡ knower v.opening v.held (v.seen ++ looks.mid) → Exchanges z x src access found w
        → IsTried v w × Retries v.opening (has v.held) v.seen w.seen access 1
    at_knower z is e =
        let k : View = knower v.opening v.held (v.seen ++ looks.mid) in
        let e' : Exchanges k x src access found w = subst (λ (y : View). Exchanges y x src access found w) is e in
        let sees = lost k x src access found w e' miss in
        let t : IsTried k w = seen_try k e'.mid w sees in
        let first : Retries v.opening (has v.held) v.seen (v.seen ++ looks.mid) access 0 = (looks.mid, refl, looks.sees.free, zero-le) in (
          record { now = t.now; legal = t.legal },
          then_lost v.opening (has v.held) v.seen (v.seen ++ looks.mid) w.seen access 0 1 first
              (missed k e'.mid w access x found sees (looks.found_is ∙ ap (shown v.opening (v.seen ++ looks.mid)) place) e'.found_is miss),
        )

-- a try that won: its load, and an exchange that found the word that was loaded
pub try_won : (v u w : View) (g x src : ℕ) (access : Access) (found : ℕ) (reply : Reply) → Looks v g x u → Exchanges u x src access found w
    → found ≡ x → Answers v.opening access found reply → IsTried v w × Completes v.opening (has v.held) v.seen w.seen src access reply 0
try_won v u w g x src access found reply looks exchange hit answered = at_knower u looks.sees.now exchange
  where
    at_knower : (z : View) → z ≡ knower v.opening v.held (v.seen ++ looks.mid) → Exchanges z x src access found w
        → IsTried v w × Completes v.opening (has v.held) v.seen w.seen src access reply 0
    at_knower z is e =
        let k : View = knower v.opening v.held (v.seen ++ looks.mid) in
        let e' : Exchanges k x src access found w = subst (λ (y : View). Exchanges y x src access found w) is e in
        let adds = won k x src access found w e' hit in
        let t : IsTried k w = added_try k e'.mid src access w adds in
        let first : Retries v.opening (has v.held) v.seen (v.seen ++ looks.mid) access 0 = (looks.mid, refl, looks.sees.free, zero-le) in (
          record { now = t.now; legal = t.legal },
          then_done v.opening (has v.held) v.seen (v.seen ++ looks.mid) w.seen src access reply 0 0 first
              (added k e'.mid src access w found reply adds e'.found_is answered),
        )
