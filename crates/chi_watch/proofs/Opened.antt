-- operations that are open at the end, each told of its granule
use Rattle.std.proofs.Common.{◌≡◌, ℕ, ◌+◌, ◌-◌, ◌/◌, ◌^◌, ◌<◌, ◌≤◌, ◌==◌, ◌⊎◌, Bool, true, false, cond, List, [], ◌∷◌, ◌++◌, All, Option, Some, None, IfSome, IsTrue, is_some, filter, inl, inr, refl, sym, ap, subst, ◌∙◌, arith, append-nil, eqb-true, eq-eqb, true≢false}
use Rattle.std.proofs.lemmas.List.Elements.{All-contains, All-contains_itself, All-weaker}
use Rattle.std.specs.List.{Contains}
use Rattle.chi_fields.specs.Access.{Access}
use Rattle.chi_events.specs.Outstanding.{IsOpen, open_operation}
use Rattle.chi_events.specs.declared.event.Event.{Event}
use Rattle.chi_events.specs.declared.outstanding.Open.{Open}
use Rattle.chi_judge.specs.Judges.{Keeps}
use Rattle.chi_judge.specs.Until.{until}
use Rattle.chi_trace.specs.AtPlaces.{is_in}
use Rattle.chi_trace.specs.Granules.{granule_of}
use Rattle.chi_trace.specs.declared.operation.Operation.{Operation}
use Rattle.chi_watch.specs.Changes.{CanEnd, HasOneMore, IsClosed}
use Rattle.chi_watch.specs.Endings.{AreToldTo, CanClose, TakesOpen}
use Rattle.chi_events.specs.Granules.{granule_of_request}
use Rattle.chi_watch.specs.Watches.{IsGranuleOf, WatchValue, Watches, granule, unknown_by}
use Rattle.chi_watch.specs.Followed.{FollowedValue}
use Rattle.chi_watch.proofs.ToldAtTheEnd.{told_none}

-- the operation is the request's
pub record IsOpened (p : Open) (op : Operation) : Type 0 where
  pub start : op.start ≡ p.start
  pub end : op.end ≡ 2 ^ 64 - 1
  pub granule : granule_of op ≡ granule_of_request p
  pub lasting : op.start ≤ op.end
  pub within : op.access.addr + op.access.len ≤ 2 ^ 52

pub opened : (granules : ℕ → Option FollowedValue) (p : Open) (op : Operation) → CanClose granules p → Some op ≡ open_operation p → IsOpened p op
opened granules p op can = by_access p.access can.at can.within
  where
    by_access : (a : Option Access) → IfSome a (λ access. access.addr ≡ p.fields.addr) → IfSome a (λ access. access.addr + access.len ≤ 2 ^ 52)
        → Some op ≡ open_operation (record p { access = a }) → IsOpened p op
    by_access None at within is = absurd (true≢false (ap is_some is))
    by_access (Some access) at within is =
        subst (λ o. IfSome o (IsOpened p)) (sym is)
        (record { start = refl; end = refl; granule = ap (λ addr. addr / 8) at; lasting = can.lasting; within = within })

-- what a granule takes that is told it
module _ (op : Operation) (lasting : op.start ≤ op.end) (within : op.access.addr + op.access.len ≤ 2 ^ 52) (end : op.end ≡ 2 ^ 64 - 1) where
  can_end : (f : FollowedValue) → (f.judge.horizon ≤ op.start) × (f.judge.latest ≤ 2 ^ 64 - 1) → CanEnd 0 f.judge op
  can_end f takes = record { past = takes.0; starts = omega arith; ends = subst (λ n. f.judge.latest ≤ n) (sym end) takes.1; lasting = lasting; within = within }

  part : FollowedValue → List Operation
  part f = until (unknown_by f.gaps f.unknown_since op.start) (op ∷ [])

  told_to : (x y : Option FollowedValue) → TakesOpen op.start x → IsClosed op 0 x y → AreToldTo (op ∷ []) x y
  unfolding part
  told_to None y takes is = absurd takes
  told_to (Some f) None takes is = absurd is
  told_to (Some f) (Some h) takes is =
      let t = is.told (can_end f takes) in
      record {
        keeps = λ words told kept.
            subst (λ (l : List Operation). Keeps words (told ++ l) (2 ^ 64 - 1) h.judge) (sym (append-nil (part f)))
            (subst (λ n. Keeps words (told ++ part f) n h.judge) end (t.heard.keeps words told (subst (λ n. Keeps words told n f.judge) (sym end) kept)));
        shown = t.heard.shown;
        final_word = t.final_word;
        since = t.since;
        gaps = t.gaps;
      }

  takes_on : (start : ℕ) (x y : Option FollowedValue) → TakesOpen op.start x → IsClosed op 0 x y → TakesOpen start x → TakesOpen start y
  takes_on start None y takes is other = absurd takes
  takes_on start (Some f) None takes is other = absurd is
  takes_on start (Some f) (Some h) takes is other =
      let t = is.told (can_end f takes) in (
        horizon f.judge.horizon h.judge.horizon other.0 t.heard.horizon_is,
        subst (λ n. h.judge.latest ≤ n) end t.heard.latest,
      )
    where
      horizon : (from to : ℕ) → from ≤ start → (to ≤ 0) ⊎ (to ≡ from) → to ≤ start
      horizon from to was (inl none) = omega (arith, none)
      horizon from to was (inr same) = subst (λ n. n ≤ start) (sym same) was

-- one request's operation is told of its granule
module _ (p : Open) (op : Operation) (old new : ℕ → Option FollowedValue) (can : CanClose old p) (is : Some op ≡ open_operation p) (more : HasOneMore op 0 old new) where
  own : IsOpened p op
  own = opened old p op can is

  takes : TakesOpen op.start (old (granule_of op))
  takes = subst (λ n. TakesOpen n (old (granule_of op))) (sym own.start) (subst (λ g. TakesOpen p.start (old g)) (sym own.granule) can.takes)

  pub told_one : (g : ℕ) → AreToldTo (filter (is_in g) (op ∷ [])) (old g) (new g)
  told_one g = by_test (granule_of op == g) refl
    where
      by_test : (b : Bool) → (granule_of op == g) ≡ b → AreToldTo (cond b (op ∷ []) []) (old g) (new g)
      by_test true here =
          subst (λ h. AreToldTo (op ∷ []) (old h) (new h)) (eqb-true (granule_of op) g here)
          (told_to op own.lasting own.within own.end (old (granule_of op)) (new (granule_of op)) takes more.own)
      by_test false other =
          subst (AreToldTo [] (old g)) (sym (more.others g (λ same. absurd (true≢false (sym (eq-eqb (granule_of op) g (sym same)) ∙ other))))) (told_none (old g))

  -- and the others can still be told
  closes_on : (q : Open) → CanClose old q → CanClose new q
  closes_on q c = record { at = c.at; within = c.within; lasting = c.lasting; takes = by_test (granule_of op == granule_of_request q) refl }
    where
      by_test : (b : Bool) → (granule_of op == granule_of_request q) ≡ b → TakesOpen q.start (new (granule_of_request q))
      by_test true here =
          let at : granule_of op ≡ granule_of_request q = eqb-true (granule_of op) (granule_of_request q) here in
          subst (λ g. TakesOpen q.start (new g)) at
          (takes_on op own.lasting own.within own.end q.start (old (granule_of op)) (new (granule_of op)) takes more.own (subst (λ g. TakesOpen q.start (old g)) (sym at) c.takes))
      by_test false other =
          subst (TakesOpen q.start) (sym (more.others (granule_of_request q) (λ same. absurd (true≢false (sym (eq-eqb (granule_of op) (granule_of_request q) (sym same)) ∙ other))))) c.takes

  pub all_close_on : (requests : List Open) → All (CanClose old) requests → All (CanClose new) requests
  all_close_on = All-weaker (CanClose old) (CanClose new) closes_on

-- each outstanding request's operation can be told, where the watch took the events
module _ (events : List Event) (ended : List Operation) (w : WatchValue) (is : Watches events ended w) (are_open : All (IsOpen w.outstanding.time) w.outstanding.requests) where
  takes_open : (p : Open) → p.start ≤ w.outstanding.time → Contains w.outstanding.requests p → (x : Option FollowedValue) → IsTrue (is_some x)
      → IsGranuleOf w.shown events ended w.outstanding (granule_of_request p) x → TakesOpen p.start x
  takes_open p start has None some of = absurd (true≢false (sym some))
  takes_open p start has (Some f) some of = (
    All-contains (λ (q : Open). granule_of_request q ≡ granule_of_request p → f.judge.horizon ≤ q.start) w.outstanding.requests p of.horizon has refl,
    let time : w.outstanding.time < 2 ^ 64 = is.time in let latest : f.judge.latest ≤ w.outstanding.time = of.latest in omega arith,
  )

  can_close : (p : Open) → Contains w.outstanding.requests p → CanClose (granule w) p
  can_close p has =
      let o : IsOpen w.outstanding.time p = All-contains (IsOpen w.outstanding.time) w.outstanding.requests p are_open has in
      let time : w.outstanding.time < 2 ^ 64 = is.time in
      record {
        at = o.at;
        within = o.within;
        lasting = omega (arith, o.start);
        takes = takes_open p o.start has (granule w (granule_of_request p))
            (All-contains (λ (q : Open). IsTrue (is_some (granule w (granule_of_request q)))) w.outstanding.requests p is.requested has) (is.each (granule_of_request p));
      }

  pub all_can_close : All (CanClose (granule w)) w.outstanding.requests
  all_can_close = All-weaker (Contains w.outstanding.requests) (CanClose (granule w)) can_close w.outstanding.requests (All-contains_itself w.outstanding.requests)
