-- a seat after lost tries
use Rattle.std.proofs.Common.{◌≡◌, ℕ, ◌+◌, List, refl, subst, ◌∙◌, add-zero, zero-le}
use Rattle.atomic_table.specs.declared.shared.Seat.{Seat}
use Rattle.chi_fields.specs.Access.{Access}
use Rattle.chi_lanes.specs.declared.reply.Reply.{Reply}
use Rattle.chi_history.specs.declared.opening.Opening.{Opening}
use Rattle.chi_history.specs.HomeClauses.{Completes, Retries}
use Rattle.chi_history.specs.NumberLists.{has}
use Rattle.chi_rule.specs.declared.view.View.{View}
use Rattle.chi_rule.specs.declared.purpose.Purpose.{Purpose}
use Rattle.chi_rule.specs.Seats.{IsKnown}
use Rattle.chi_rule.proofs.TryLemmas.{lost_none, then_done, then_lost}

-- after lost tries, of which so many are counted, a seat of the opening holds what it held
pub record IsAfter (o : Opening) (first : Seat Purpose View) (access : Access) (count : ℕ) (seat : Seat Purpose View) : Type 0 where
  pub own : (seat.table_id ≡ first.table_id) × (seat.me.1 ≡ first.me.1)
  pub known : IsKnown o seat.me.0
  pub held : seat.me.0.held ≡ first.me.0.held
  pub lost : Retries o (has first.me.0.held) first.me.0.seen seat.me.0.seen access count

-- before the first try
pub before_tries : (o : Opening) (first : Seat Purpose View) (access : Access) → IsKnown o first.me.0 → IsAfter o first access 0 first
before_tries o first access known = record {
  own = (refl, refl);
  known = known;
  held = refl;
  lost = lost_none o (has first.me.0.held) first.me.0.seen access;
}

-- after one more
pub lost_again : (o : Opening) (first seat next : Seat Purpose View) (access : Access) (n : ℕ) → IsAfter o first access n seat
    → (next.table_id ≡ seat.table_id) × (next.me.1 ≡ seat.me.1) → IsKnown o next.me.0 → next.me.0.held ≡ seat.me.0.held
    → Retries o (has seat.me.0.held) seat.me.0.seen next.me.0.seen access 1 → IsAfter o first access (n + 1) next
lost_again o first seat next access n after own known held tried = record {
  own = (own.0 ∙ after.own.0, own.1 ∙ after.own.1);
  known = known;
  held = held ∙ after.held;
  lost = then_lost o (has first.me.0.held) first.me.0.seen seat.me.0.seen next.me.0.seen access n 1 after.lost
      (subst (λ (z : List ℕ). Retries o (has z) seat.me.0.seen next.me.0.seen access 1) after.held tried);
}

-- lost tries that are not counted
pub uncounted : (o : Opening) (first seat : Seat Purpose View) (access : Access) (n : ℕ) → IsAfter o first access n seat → IsAfter o first access 0 seat
uncounted o first seat access n after = record {
  own = after.own;
  known = after.known;
  held = after.held;
  lost = (after.lost.0, after.lost.1, after.lost.2, zero-le);
}

-- a try that wins, after lost ones
pub won_at_last : (o : Opening) (first seat next : Seat Purpose View) (src : ℕ) (access : Access) (reply : Reply) (n : ℕ) → IsAfter o first access n seat
    → Completes o (has seat.me.0.held) seat.me.0.seen next.me.0.seen src access reply 0
    → Completes o (has first.me.0.held) first.me.0.seen next.me.0.seen src access reply n
won_at_last o first seat next src access reply n after tried =
    subst (λ (k : ℕ). Completes o (has first.me.0.held) first.me.0.seen next.me.0.seen src access reply k) (add-zero n)
    (then_done o (has first.me.0.held) first.me.0.seen seat.me.0.seen next.me.0.seen src access reply n 0 after.lost
    (subst (λ (z : List ℕ). Completes o (has z) seat.me.0.seen next.me.0.seen src access reply 0) after.held tried))
