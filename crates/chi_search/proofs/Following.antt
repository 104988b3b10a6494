-- what can come next once other operations follow, which start later
use Rattle.std.proofs.Common.{◌≡◌, ℕ, ◌<◌, nat_lt, true, List, ◌++◌, Option, None, Some, IfSome, length, length-append, sym, ap, subst, ◌∙◌, arith, inl, inr, lt-ltb, ◌&&◌}
use Rattle.std.proofs.lemmas.Bool.{and_parts, cases_lt}
use Rattle.std.proofs.lemmas.List.Elements.{All-weaker}
use Rattle.chi_trace.specs.declared.operation.Operation.{Operation}
use Rattle.chi_trace.specs.Explains.{at}
use Rattle.chi_trace.specs.Granules.{Fits, next}
use Rattle.chi_trace.proofs.Segments.{at_earlier}
use Rattle.chi_search.specs.Equal.{AreEqual, HasEqualBefore}
use Rattle.chi_search.specs.Layers.{CanStart, ComeAfter, MayFollow}
use Rattle.chi_search.specs.Moves.{CanCome, Drops, Takes}
use Rattle.chi_search.specs.Positions.{IsReady, Position, is_left, is_unsettled}
use Rattle.chi_search.proofs.Settling.{left_is}

pub at_before : (ops more : List Operation) (i : ℕ) → i < length ops → at (ops ++ more) i ≡ at ops i
at_before ops more i below = at_earlier ops more i (lt-ltb i (length ops) below)

left_on : (ops more : List Operation) (p : Position) (i : ℕ) → is_left (length ops) p i ≡ true → is_left (length (ops ++ more)) p i ≡ true
left_on ops more p i left =
    let below : i < length ops = (left_is (length ops) p i left).0 in
    let further : i < length (ops ++ more) = omega (arith, below, length-append ops more) in
    ap (λ b. b && is_unsettled p i) (lt-ltb i (length (ops ++ more)) further) ∙ (and_parts (nat_lt i (length ops)) (is_unsettled p i) left).1

left_back : (ops more : List Operation) (p : Position) (i : ℕ) → i < length ops → is_left (length (ops ++ more)) p i ≡ true → is_left (length ops) p i ≡ true
left_back ops more p i below left =
    ap (λ b. b && is_unsettled p i) (lt-ltb i (length ops) below) ∙ (and_parts (nat_lt i (length (ops ++ more))) (is_unsettled p i) left).1

pub comes_on : (ops more : List Operation) (p : Position) (i : ℕ) → p.first < length ops → CanCome ops p i → CanCome (ops ++ more) p i
comes_on ops more p i first comes =
    let start : (at (ops ++ more) i).start ≡ (at ops i).start = ap (λ (o : Operation). o.start) (at_before ops more i (left_is (length ops) p i comes.0).0) in
    let end : (at (ops ++ more) p.first).end ≡ (at ops p.first).end = ap (λ (o : Operation). o.end) (at_before ops more p.first first) in
    (left_on ops more p i comes.0, omega (arith, start, end, comes.1))

pub comes_back : (ops more : List Operation) (p : Position) (i : ℕ) → p.first < length ops → i < length ops → CanCome (ops ++ more) p i → CanCome ops p i
comes_back ops more p i first below comes =
    let start : (at (ops ++ more) i).start ≡ (at ops i).start = ap (λ (o : Operation). o.start) (at_before ops more i below) in
    let end : (at (ops ++ more) p.first).end ≡ (at ops p.first).end = ap (λ (o : Operation). o.end) (at_before ops more p.first first) in
    (left_back ops more p i below comes.0, omega (arith, start, end, comes.1))

-- an equal operation stands before the place still
pub equal_on : (ops more : List Operation) (p : Position) (k : ℕ) → p.first < length ops → k < length ops → HasEqualBefore ops p k → HasEqualBefore (ops ++ more) p k
equal_on ops more p k first below (i, before, equal, comes) = (i, before, same, comes_on ops more p i first comes)
  where
    same : AreEqual (at (ops ++ more) k) (at (ops ++ more) i)
    same =
        subst (λ (o : Operation). AreEqual o (at (ops ++ more) i)) (sym (at_before ops more k below))
        (subst (AreEqual (at ops k)) (sym (at_before ops more i (left_is (length ops) p i comes.0).0)) equal)

pub takes_on : (ops more : List Operation) (p q : Position) (i : ℕ) → i < length ops → Takes ops p i q → Takes (ops ++ more) p i q
takes_on ops more p q i below takes = record {
  fits = subst (λ (o : Operation). Fits o p.word) (sym (at_before ops more i below)) takes.fits;
  word = takes.word ∙ ap (λ (o : Operation). next o p.word) (sym (at_before ops more i below));
  left = takes.left;
}

pub drops_on : (ops more : List Operation) (p q : Position) → p.first < length ops → Drops ops p q → Drops (ops ++ more) p q
drops_on ops more p q below drops = record {
  unanswered = ap (λ (o : Operation). o.reply) (at_before ops more p.first below) ∙ drops.unanswered;
  word = drops.word;
  left = drops.left;
}

pub ready_on : (ops more : List Operation) (p : Position) → IsReady (length ops) p → IsReady (length (ops ++ more)) p
ready_on ops more p ready = record {
  within = omega (arith, ready.within, length-append ops more);
  left = λ below. ap (λ b. b && is_unsettled p p.first) (lt-ltb p.first (length (ops ++ more)) below) ∙ first;
  later = λ j past. ready.later j (omega (arith, past, length-append ops more));
}
  where
    first : is_unsettled p p.first ≡ true
    first = elim (cases_lt p.first (length ops)) [
      | inl below ↦ (and_parts (nat_lt p.first (length ops)) (is_unsettled p p.first) (ready.left below)).1
      | inr past ↦ ready.later p.first past
    ]

-- what does not start before the horizon starts after each time before it
pub come_after : (ops : List Operation) (horizon : Option ℕ) (time : ℕ) (more : List Operation) → MayFollow ops horizon more → IfSome horizon (λ h. time < h)
    → ComeAfter ops time more
come_after ops horizon time more follow before = record {
  sorted = follow.sorted;
  late = All-weaker (CanStart horizon) (λ op. time < op.start) (starts horizon before) more follow.later;
}
  where
    starts : (h : Option ℕ) → IfSome h (λ t. time < t) → (op : Operation) → CanStart h op → time < op.start
    starts None b op never = absurd never
    starts (Some t) b op later = omega (arith, b, later)
