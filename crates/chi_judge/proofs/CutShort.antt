-- what had happened before a time, of operations in any order: its parts, what stays true of it, and a judge that keeps just this
use Rattle.std.proofs.Common.{◌≡◌, ℕ, ◌<◌, ◌≤◌, zero, suc, List, [], ◌∷◌, ◌++◌, All, None, refl, sym, ap, ap₂, subst, ◌∙◌, arith}
use Rattle.std.proofs.lemmas.List.Elements.{All-head, All-nil, All-weaker}
use Rattle.chi_trace.specs.declared.operation.Operation.{Operation}
use Rattle.chi_trace.specs.Cuts.{cut}
use Rattle.chi_search.specs.Frontiers.{FrontierValue, GoesAlong, MayBeTold}
use Rattle.chi_search.specs.Layers.{SomeLeads}
use Rattle.chi_search.proofs.Telling.{none_told}
use Rattle.chi_judge.specs.Judges.{EndedBefore, EndedWithin, IsJudge, JudgeValue, Keeps, LiesWithin}
use Rattle.chi_judge.specs.Until.{cut_before}
use Rattle.chi_judge.proofs.Cutting.{All-cut, EndedBy, cut-append, cut_again, cut_told, cut_whole, stays_known}

-- of operations told one after the other
pub cut_before-append : (time : ℕ) (a b : List Operation) → cut_before time (a ++ b) ≡ cut_before time a ++ cut_before time b
cut_before-append zero a b = refl
cut_before-append (suc time) a b = cut-append time a b

-- all is known of those that had ended
pub cut_before_whole : (time : ℕ) (ops : List Operation) → All (EndedBefore time) ops → cut_before time ops ≡ ops
cut_before_whole zero [] all = refl
cut_before_whole zero (op ∷ ops) all = absurd (let first = All-head (EndedBefore 0) op ops all in omega (arith, first.1))
cut_before_whole (suc time) ops all = cut_whole time ops (All-weaker (EndedBefore (suc time)) (EndedBy time) (λ op e. (e.0, omega (arith, e.1))) ops all)

-- what had happened before says what had happened earlier still
pub cut_before_again : (early late : ℕ) (ops : List Operation) → early < late → cut early (cut_before late ops) ≡ cut early ops
cut_before_again early zero ops below = absurd (omega (arith, below))
cut_before_again early (suc late) ops below = cut_again early late (omega (arith, below)) ops

-- and the same once more
pub cut_before_twice : (time : ℕ) (ops : List Operation) → cut_before time (cut_before time ops) ≡ cut_before time ops
cut_before_twice zero ops = refl
cut_before_twice (suc time) ops = cut_again time time (omega arith) ops

-- what holds of each, whatever is known of its reply, holds of each that had started
pub All-cut_before : (P : Operation → Type 0) → ((op : Operation) → P op → P (record op { reply = None })) → (time : ℕ) (ops : List Operation) → All P ops → All P (cut_before time ops)
All-cut_before P without zero ops all = All-nil P
All-cut_before P without (suc time) ops all = All-cut P (stays_known P without) time ops all

told_before : (f : FrontierValue) (time : ℕ) (ops : List Operation) → MayBeTold f ops → MayBeTold f (cut_before time ops)
told_before f zero ops may = none_told f
told_before f (suc time) ops may = cut_told f time ops may

nothing_before : (time : ℕ) → cut_before time [] ≡ []
nothing_before zero = refl
nothing_before (suc time) = refl

within_before : (time : ℕ) (ops : List Operation) → All LiesWithin ops → All LiesWithin (cut_before time ops)
within_before time ops all = All-cut_before LiesWithin (λ op is. is) time ops all

-- once it keeps only what had happened before a time
abbrev pub cut_short : ℕ → JudgeValue → JudgeValue
cut_short time r = record r { kept = cut_before time r.kept; ahead = []; seen = 0; word = None }

pub judge_cut : (time : ℕ) (r : JudgeValue) → IsJudge r → IsJudge (cut_short time r)
judge_cut time r is = record {
  next = told_before r.before time r.kept is.next;
  within = within_before time r.kept is.within;
  ended = All-cut_before (λ op. op.end ≤ r.latest) (λ op ended. ended) time r.kept is.ended;
  horizon_by = is.horizon_by;
  latest_by = is.latest_by;
}

module _ (words : List ℕ) (told : List Operation) (now time : ℕ) (r : JudgeValue) (late : r.horizon ≤ time) (k : Keeps words told now r) where
  -- those before them had ended
  earlier_whole : cut_before time k.earlier ≡ k.earlier
  earlier_whole = cut_before_whole time k.earlier
      (All-weaker (EndedBefore r.since) (EndedBefore time) (λ op e. (e.0, omega (arith, e.1, k.since_by, late))) k.earlier k.ended)

  pub keeps_cut : Keeps words (cut_before time told) now (cut_short time r)
  keeps_cut = record {
    earlier = k.earlier;
    later = cut_before time k.later;
    parts = ap (cut_before time) k.parts ∙ (cut_before-append time k.earlier (r.kept ++ k.later)
        ∙ ap₂ (λ (a b : List Operation). a ++ b) earlier_whole (cut_before-append time r.kept k.later));
    follows = k.follows;
    left = k.left;
    in_order = k.in_order;
    ended = k.ended;
    next = told_before r.before time r.kept k.next;
    within = within_before time r.kept k.within;
    ends = All-cut_before (EndedWithin r.since now) (λ op e. e) time r.kept k.ends;
    ahead = All-nil (GoesAlong words (k.earlier ++ []));
    seen = omega arith;
    late = All-cut_before (λ op. r.horizon ≤ op.start) (λ op from. from) time k.later k.late;
    goes_on = λ goes. ap (cut_before time) (k.goes_on goes) ∙ nothing_before time;
    since_by = k.since_by;
    past = k.past;
    explained = λ early is.
        let led = k.explained early is in
        (led.0, subst (λ (l : List Operation). SomeLeads l words led.0) (sym (cut_before_again early time told (omega (arith, is, k.since_by, late)))) led.1);
    known = λ _. tt;
    stopped = λ so.
        let none = k.stopped so in
        (none.0, none.1, λ v leads. none.2 v (subst (λ (l : List Operation). SomeLeads l words v) (cut_before_again none.0 time told (omega (arith, none.1, late))) leads));
  }
