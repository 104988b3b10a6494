-- what the operations lead to, once one of them was answered otherwise
use Rattle.std.proofs.Common.{◌≡◌, ℕ, ◌-◌, ◌<◌, ◌≤◌, true, List, Option, [], ◌∷◌, ◌++◌, All, append_assoc, drop, filter, length, length-append, set, suc, take, refl, sym, ap, subst, ◌∙◌, ⊎_elim, arith}
use Rattle.std.proofs.lemmas.Bool.{cases_lt}
use Rattle.std.specs.Prelude.{IsPermutation}
use Rattle.std.proofs.lemmas.List.{get_or-append_right, get_or_append_left, set-append_left, set-append_right, set-get_or, set_split}
use Rattle.std.proofs.lemmas.List.Elements.{All-cons, All-head, All-tail, filter_passes}
use Rattle.std.proofs.lemmas.List.Sorted.{All-permutation, IsPermutation-middle, IsPermutation-sym, IsPermutation-trans}
use Rattle.chi_lanes.specs.declared.reply.Reply.{Reply}
use Rattle.chi_trace.specs.declared.operation.Operation.{Operation}
use Rattle.chi_trace.specs.AtPlaces.{GranulesStandAlone, is_in}
use Rattle.chi_trace.specs.Cuts.{cut}
use Rattle.chi_trace.specs.Explains.{at, nothing}
use Rattle.chi_search.specs.Layers.{SomeLeads}
use Rattle.chi_judge.specs.Legal.{IsExplainedWith, LeadsNowhereWith, LeadsWith, answered_by, with_reply}
use Rattle.chi_judge.specs.Reaches.{CanLeave, IsExplained, IsJudgeOf}
use Rattle.chi_judge.specs.Judges.{EndedBefore, Keeps, JudgeValue}
use Rattle.chi_judge.specs.Searches.{IsSeen}
use Rattle.chi_judge.proofs.Keeping.{cut_parts, late_after}
use Rattle.chi_judge.proofs.Leading.{explained_from, leads_from, leaves_from, leaves_some, moved_cut}
use Rattle.chi_judge.proofs.Lists.{filter_each}
use Rattle.chi_judge.proofs.Replaced.{IsThere, replaced}

-- four lists, of which the middle ones stand together
regrouped : (a b c d : List Operation) (op : Operation) → (a ++ b) ++ op ∷ (c ++ d) ≡ a ++ ((b ++ op ∷ c) ++ d)
regrouped a b c d op = append_assoc a b (op ∷ (c ++ d)) ∙ ap (λ (l : List Operation). a ++ l) (sym (append_assoc b (op ∷ c) d))

module _ (law : GranulesStandAlone) (trace : List Operation) (g w : ℕ) (r : JudgeValue) (is : IsJudgeOf trace g w r) (time : ℕ) (seen : IsSeen r time) (place : ℕ) (within : place < length r.kept) where
  abbrev k : Keeps (w ∷ []) is.told is.now r
  k = is.keeps

  abbrev ops : List Operation
  ops = r.kept

  abbrev op : Operation
  op = at ops place

  abbrev first : List Operation
  first = k.earlier ++ take place ops

  abbrev then : List Operation
  then = drop (suc place) ops ++ k.later

  abbrev others : List Operation
  others = first ++ then

  whole : is.told ≡ first ++ op ∷ then
  whole =
      k.parts ∙ (ap (λ (l : List Operation). k.earlier ++ (l ++ k.later)) (sym (set-get_or ops place nothing) ∙ set_split ops place op within)
      ∙ sym (regrouped k.earlier (take place ops) (drop (suc place) ops) k.later op))

  parted : IsPermutation (filter (is_in g) trace) (op ∷ others)
  parted = IsPermutation-trans (filter (is_in g) trace) is.told (op ∷ others) is.moved
      (subst (λ (l : List Operation). IsPermutation l (op ∷ others)) (sym whole) (IsPermutation-middle first op then))

  own : All (λ o. is_in g o ≡ true) (op ∷ others)
  own = All-permutation (λ (o : Operation). is_in g o ≡ true) (filter (is_in g) trace) (op ∷ others) parted (filter_passes (is_in g) trace)

  -- with a reply, or none, that leads on to some word they are explained
  pub explained_with : (reply : Option Reply) → LeadsWith r.before ops time place reply → IsExplainedWith trace g w time op reply
  explained_with reply leads = record { others = others; each = parted; order = explained.0; explains = explained.1 }
    where
      cut_is : cut time (first ++ answered_by op reply ∷ then) ≡ k.earlier ++ cut time (with_reply ops place reply)
      cut_is =
          ap (cut time) (regrouped k.earlier (take place ops) (drop (suc place) ops) k.later (answered_by op reply)
          ∙ ap (λ (l : List Operation). k.earlier ++ (l ++ k.later)) (sym (set_split ops place (answered_by op reply) within)))
          ∙ cut_parts time r.since k.earlier (with_reply ops place reply) k.later seen.since k.ended (late_after (w ∷ []) is.told is.now r k time seen.before)

      own_too : All (λ o. is_in g o ≡ true) (answered_by op reply ∷ others)
      own_too = All-cons (λ (o : Operation). is_in g o ≡ true) (answered_by op reply) others
          (All-head (λ (o : Operation). is_in g o ≡ true) op others own) (All-tail (λ (o : Operation). is_in g o ≡ true) op others own)

      moved : IsPermutation (filter (is_in g) (answered_by op reply ∷ others)) (first ++ answered_by op reply ∷ then)
      moved = subst (λ (l : List Operation). IsPermutation l (first ++ answered_by op reply ∷ then)) (sym (filter_each (is_in g) (answered_by op reply ∷ others) own_too))
          (IsPermutation-sym (first ++ answered_by op reply ∷ then) (answered_by op reply ∷ others) (IsPermutation-middle first (answered_by op reply) then))

      led : (v : ℕ) × SomeLeads (k.earlier ++ cut time (with_reply ops place reply)) (w ∷ []) v
      led = leads (w ∷ []) k.earlier k.follows

      explained : IsExplained time (answered_by op reply ∷ others) g w
      explained = explained_from time (answered_by op reply ∷ others) g w led.0
          (leaves_from law (cut time (answered_by op reply ∷ others)) (cut time (first ++ answered_by op reply ∷ then)) g w led.0
          (moved_cut time g (answered_by op reply ∷ others) (first ++ answered_by op reply ∷ then) moved)
          (subst (λ (l : List Operation). SomeLeads l (w ∷ []) led.0) (sym cut_is) led.1))

-- an operation that had ended by the time is one of those that are kept, and where it is explained with another reply the search does
-- not go nowhere with that reply of it
module _ (law : GranulesStandAlone) (trace : List Operation) (g w : ℕ) (r : JudgeValue) (is : IsJudgeOf trace g w r) (time : ℕ) (seen : IsSeen r time) (op : Operation) (reply : Option Reply) (e : IsExplainedWith trace g w time op reply)
    (from : r.since ≤ op.end) (lasting : op.start ≤ op.end) (by : op.end ≤ time) where
  abbrev l : Keeps (w ∷ []) is.told is.now r
  l = is.keeps

  abbrev changed : Operation
  changed = answered_by op reply

  -- it was told
  told_op : IsPermutation (op ∷ e.others) is.told
  told_op = IsPermutation-trans (op ∷ e.others) (filter (is_in g) trace) is.told (IsPermutation-sym (filter (is_in g) trace) (op ∷ e.others) e.each) is.moved

  own_all : All (λ o. is_in g o ≡ true) (op ∷ e.others)
  own_all = All-permutation (λ (o : Operation). is_in g o ≡ true) (filter (is_in g) trace) (op ∷ e.others) e.each (filter_passes (is_in g) trace)

  own_changed : All (λ o. is_in g o ≡ true) (changed ∷ e.others)
  own_changed = All-cons (λ (o : Operation). is_in g o ≡ true) changed e.others
      (All-head (λ (o : Operation). is_in g o ≡ true) op e.others own_all) (All-tail (λ (o : Operation). is_in g o ≡ true) op e.others own_all)

  -- where it is the one at a place of those that are kept
  module _ (j : ℕ) (within : j < length r.kept) (there : at r.kept j ≡ op) (moved : IsPermutation (changed ∷ e.others) (l.earlier ++ (set r.kept j changed ++ l.later))) where
    leads_on : LeadsNowhereWith r.before r.kept time j reply → ⊥
    leads_on none = none (w ∷ []) l.earlier l.follows left.0 (subst (λ (ops : List Operation). SomeLeads (l.earlier ++ cut time ops) (w ∷ []) left.0) same led)
      where
        told : List Operation
        told = l.earlier ++ (set r.kept j changed ++ l.later)

        same : set r.kept j changed ≡ with_reply r.kept j reply
        same = ap (λ (o : Operation). set r.kept j (answered_by o reply)) (sym there)

        left : (v : ℕ) × CanLeave (cut time (changed ∷ e.others)) g w v
        left = leaves_some time (changed ∷ e.others) g w (e.order, e.explains)

        led : SomeLeads (l.earlier ++ cut time (set r.kept j changed)) (w ∷ []) left.0
        led = subst (λ (ops : List Operation). SomeLeads ops (w ∷ []) left.0)
            (cut_parts time r.since l.earlier (set r.kept j changed) l.later seen.since l.ended (late_after (w ∷ []) is.told is.now r l time seen.before))
            (leads_from law (cut time (changed ∷ e.others)) (cut time told) g w left.0
            (moved_cut time g (changed ∷ e.others) told
            (subst (λ (ops : List Operation). IsPermutation ops told) (sym (filter_each (is_in g) (changed ∷ e.others) own_changed)) moved))
            left.1)

  -- it stands among them
  pub kept_with : (j : ℕ) × (j < length r.kept) × (at r.kept j ≡ op) × (LeadsNowhereWith r.before r.kept time j reply → ⊥)
  kept_with = by_place (subst (IsThere nothing op changed e.others) l.parts (replaced nothing op changed e.others is.told told_op))
    where
      by_place : IsThere nothing op changed e.others (l.earlier ++ (r.kept ++ l.later)) → (j : ℕ) × (j < length r.kept) × (at r.kept j ≡ op) × (LeadsNowhereWith r.before r.kept time j reply → ⊥)
      by_place (q, within, found, moved) = ⊎_elim in_earlier after (cases_lt q (length l.earlier))
        where
          in_earlier : q < length l.earlier → (j : ℕ) × (j < length r.kept) × (at r.kept j ≡ op) × (LeadsNowhereWith r.before r.kept time j reply → ⊥)
          in_earlier first =
              let same : at l.earlier q ≡ op = sym (get_or_append_left l.earlier (r.kept ++ l.later) nothing q first) ∙ found in
              let ended = subst (λ (o : Operation). EndedBefore r.since o) same (l.ended q nothing first) in
              absurd (omega (arith, ended.1, from))

          after : length l.earlier ≤ q → (j : ℕ) × (j < length r.kept) × (at r.kept j ≡ op) × (LeadsNowhereWith r.before r.kept time j reply → ⊥)
          after past = ⊎_elim in_kept in_later (cases_lt j (length r.kept))
            where
              j : ℕ
              j = q - length l.earlier

              there : at (r.kept ++ l.later) j ≡ op
              there = sym (get_or-append_right l.earlier (r.kept ++ l.later) (length l.earlier) q nothing refl past) ∙ found

              in_kept : j < length r.kept → (j : ℕ) × (j < length r.kept) × (at r.kept j ≡ op) × (LeadsNowhereWith r.before r.kept time j reply → ⊥)
              in_kept inside =
                  let here : at r.kept j ≡ op = sym (get_or_append_left r.kept l.later nothing j inside) ∙ there in (
                    j,
                    inside,
                    here,
                    leads_on j inside here
                        (subst (IsPermutation (changed ∷ e.others))
                        (set-append_right l.earlier (r.kept ++ l.later) (length l.earlier) q changed refl past
                        ∙ ap (λ (ops : List Operation). l.earlier ++ ops) (set-append_left r.kept l.later j changed inside))
                        moved),
                  )

              in_later : length r.kept ≤ j → (j : ℕ) × (j < length r.kept) × (at r.kept j ≡ op) × (LeadsNowhereWith r.before r.kept time j reply → ⊥)
              in_later beyond =
                  let k : ℕ = j - length r.kept in
                  let inside : k < length l.later = omega (arith, within, past, beyond, length-append l.earlier (r.kept ++ l.later), length-append r.kept l.later) in
                  let same : at l.later k ≡ op = sym (get_or-append_right r.kept l.later (length r.kept) j nothing refl beyond) ∙ there in
                  let late = subst (λ (o : Operation). time < o.start) same (late_after (w ∷ []) is.told is.now r l time seen.before k nothing inside) in
                  absurd (omega (arith, late, lasting, by))
