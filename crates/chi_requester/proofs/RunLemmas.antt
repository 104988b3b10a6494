-- one requester's work on its requests of a slice
use Rattle.std.proofs.Common.{◌≡◌, ◌≢◌, ℕ, ◌+◌, ◌<◌, Bool, true, false, ◌==◌, cond, List, [], ◌∷◌, ◌++◌, length, get_or, take, drop, drop-cons, Result, IsErr, refl, sym, ap, subst, ◌∙◌, eqb-true, eq-eqb, add-one, append_assoc, append-nil}
use Rattle.std.proofs.lemmas.List.{take_more, take-append-drop}
use Rattle.std.proofs.lemmas.List.Elements.{filter-append}
use Rattle.chi_fields.specs.declared.request.Request.{Request}
use Rattle.chi_history.specs.declared.entry.Entry.{Entry}
use Rattle.chi_history.specs.declared.line.Line.{Line}
use Rattle.chi_history.specs.declared.opening.Opening.{Opening}
use Rattle.chi_history.specs.NumberSets.{Held}
use Rattle.chi_requester.specs.declared.fault.WorkFault.{WorkFault}
use Rattle.chi_requester.specs.declared.policy.Policy.{Policy}
use Rattle.chi_requester.specs.Work.{IsExecuted, IsWorkRun, own_requests}
use Rattle.chi_requester.proofs.WorkLemmas.{are_left-err, executed-append, executed_none}

-- these requests were executed, and their lines were appended
pub record ExecutedSoFar (o : Opening) (policy : Policy) (limit : ℕ) (held : Held) (src : ℕ) (qs : List Request) (seen seen' : List Entry) (lines lines' : List Line) : Type 0 where
  pub appended : List Line
  pub kept : lines' ≡ lines ++ appended
  pub executed : IsExecuted o policy limit held src seen seen' qs appended

-- none of them
pub so_far_none : (o : Opening) (policy : Policy) (limit : ℕ) (held : Held) (src : ℕ) (seen : List Entry) (lines : List Line) → ExecutedSoFar o policy limit held src [] seen seen lines lines
so_far_none o policy limit held src seen lines = record { appended = []; kept = sym (append-nil lines); executed = executed_none o policy limit held src seen }

-- the requests of a number among one more request, which is of this number
pub own_requests-more : (qs : List Request) (i src : ℕ) (d : Request) → i < length qs → (get_or qs i d).src ≡ src
    → own_requests (take (i + 1) qs) src ≡ own_requests (take i qs) src ++ get_or qs i d ∷ []
own_requests-more qs i src d within own =
    ap (λ (rs : List Request). own_requests rs src) (take_more qs i d within) ∙ (filter-append (λ (q : Request). q.src == src) (take i qs) (get_or qs i d ∷ [])
    ∙ ap (λ (b : Bool). own_requests (take i qs) src ++ cond b (get_or qs i d ∷ []) []) (eq-eqb (get_or qs i d).src src own))

-- the same where it is of another
pub own_requests-skip : (qs : List Request) (i src : ℕ) (d : Request) → i < length qs → ((get_or qs i d).src == src) ≡ false
    → own_requests (take (i + 1) qs) src ≡ own_requests (take i qs) src
own_requests-skip qs i src d within other =
    ap (λ (rs : List Request). own_requests rs src) (take_more qs i d within) ∙ (filter-append (λ (q : Request). q.src == src) (take i qs) (get_or qs i d ∷ [])
    ∙ (ap (λ (b : Bool). own_requests (take i qs) src ++ cond b (get_or qs i d ∷ []) []) other ∙ append-nil (own_requests (take i qs) src)))

-- the request at an index, of this number, after those before it
pub so_far_next : (o : Opening) (policy : Policy) (limit : ℕ) (held held' : Held) (src : ℕ) (qs : List Request) (i : ℕ) (d : Request) (start seen seen' : List Entry) (first lines lines' piece : List Line)
    → i < length qs → (get_or qs i d).src ≡ src → held' ≡ held → ExecutedSoFar o policy limit held src (own_requests (take i qs) src) start seen first lines
    → lines' ≡ lines ++ piece → IsExecuted o policy limit held' (get_or qs i d).src seen seen' (get_or qs i d ∷ []) piece
    → ExecutedSoFar o policy limit held src (own_requests (take (i + 1) qs) src) start seen' first lines'
so_far_next o policy limit held held' src qs i d start seen seen' first lines lines' piece within own same before more one = record {
  appended = before.appended ++ piece;
  kept = more ∙ (ap (λ (xs : List Line). xs ++ piece) before.kept ∙ append_assoc first before.appended piece);
  executed =
      let P : List Request → Type 0 = λ rs. IsExecuted o policy limit held src start seen' rs (before.appended ++ piece) in
      subst P (sym (own_requests-more qs i src d within own)) (executed-append o policy limit held src start seen seen' (own_requests (take i qs) src) (get_or qs i d ∷ []) before.appended piece before.executed here);
}
  where
    here : IsExecuted o policy limit held src seen seen' (get_or qs i d ∷ []) piece
    here =
        let P : Held → Type 0 = λ s. IsExecuted o policy limit s src seen seen' (get_or qs i d ∷ []) piece in
        let Q : ℕ → Type 0 = λ r. IsExecuted o policy limit held' r seen seen' (get_or qs i d ∷ []) piece in
        subst P same (subst Q own one)

-- the request at an index is of another number
pub so_far_skip : (o : Opening) (policy : Policy) (limit : ℕ) (held : Held) (src : ℕ) (qs : List Request) (i : ℕ) (d : Request) (start seen : List Entry) (first lines : List Line)
    → i < length qs → ((get_or qs i d).src == src) ≡ false → ExecutedSoFar o policy limit held src (own_requests (take i qs) src) start seen first lines
    → ExecutedSoFar o policy limit held src (own_requests (take (i + 1) qs) src) start seen first lines
so_far_skip o policy limit held src qs i d start seen first lines within other before =
    let P : List Request → Type 0 = λ rs. ExecutedSoFar o policy limit held src rs start seen first lines in subst P (sym (own_requests-skip qs i src d within other)) before

-- different numbers differ by test
pub eqb_other : (a b : ℕ) → a ≢ b → (a == b) ≡ false
eqb_other a b differ = by_test (a == b) refl
  where
    by_test : (t : Bool) → (a == b) ≡ t → (a == b) ≡ false
    by_test true same = absurd (differ (eqb-true a b same))
    by_test false other = other

-- from a request of this number on, some are left
pub own_requests-left : (qs : List Request) (i src : ℕ) (d : Request) → i < length qs → (get_or qs i d).src ≡ src → own_requests (drop i qs) src ≢ []
own_requests-left qs i src d within own none_left =
    let e : own_requests (drop i qs) src ≡ get_or qs i d ∷ own_requests (drop (i + 1) qs) src =
    ap (λ (rs : List Request). own_requests rs src) (drop-cons qs i d within ∙ ap (λ (n : ℕ). get_or qs i d ∷ drop n qs) (sym (add-one i)))
    ∙ ap (λ (b : Bool). cond b (get_or qs i d ∷ own_requests (drop (i + 1) qs) src) (own_requests (drop (i + 1) qs) src)) (eq-eqb (get_or qs i d).src src own) in
    cc

-- the work stops before the request at an index
pub work_stopped : (result : Result (Unit {0}) WorkFault) (o : Opening) (policy : Policy) (limit : ℕ) (held : Held) (src : ℕ) (qs : List Request) (i : ℕ) (d : Request) (start seen seen' : List Entry) (first lines lines' : List Line)
    → i < length qs → (get_or qs i d).src ≡ src → IsErr result → ExecutedSoFar o policy limit held src (own_requests (take i qs) src) start seen first lines
    → lines' ≡ lines → seen' ≡ seen → IsWorkRun result o policy limit held src qs start seen' first lines'
work_stopped result o policy limit held src qs i d start seen seen' first lines lines' within own failed before same_lines same_seen = record {
  done = own_requests (take i qs) src;
  left = own_requests (drop i qs) src;
  parts = sym (filter-append (λ (q : Request). q.src == src) (take i qs) (drop i qs)) ∙ ap (λ (rs : List Request). own_requests rs src) (take-append-drop i qs);
  are_left = are_left-err result (own_requests (drop i qs) src) failed (own_requests-left qs i src d within own);
  appended = before.appended;
  kept = same_lines ∙ before.kept;
  executed = let P : List Entry → Type 0 = λ h. IsExecuted o policy limit held src start h (own_requests (take i qs) src) before.appended in subst P (sym same_seen) before.executed;
}
