-- the steps of the line, as its cell asks for them
use Rattle.std.proofs.Common.{◌≡◌, ◌≤◌, ℕ, true, false, true≢false, Result, Ok, Err, MatchResult, nat_eq, if◌then◌else◌, List, [], set, slice_index, refl, ap, subst, sym, ◌∙◌}
use lib.Pointwise.{pointwise, bytes_decides}
use Rattle.crossbeam_utils.specs.Register.{Forks, Merges, Turns}
use Rattle.chi_fields.specs.Extent.{IsRegion, granule_of, lies_in}
use Rattle.chi_fields.specs.Access.{IsLawful, Access}
use Rattle.chi_history.specs.declared.opening.Opening.{Opening}
use Rattle.chi_history.specs.NumberLists.{has}
use Rattle.chi_rule.specs.declared.view.View.{View}
use Rattle.chi_rule.specs.Rule.{Ruled}
use Rattle.chi_rule.specs.StepFacts.{Applies, Reads, Replaces, Settles, Tries}
use Rattle.chi_rule.specs.Views.{all_below, alone, newcomer, both, gone, knower, rest_of}
use Rattle.chi_lockstore.specs.LockSeats.{IsAlone}
use Rattle.chi_rule.proofs.ExchangeLemmas.{tries}
use Rattle.chi_rule.proofs.JoinLemmas.{unites}
use Rattle.chi_rule.proofs.RuledLemmas.{ruled_opens, ruled_parts, ruled_steps, ruled_unites}
use Rattle.chi_rule.proofs.SplitLemmas.{moves, splits}
use Rattle.chi_rule.proofs.StepLemmas.{reads, settles}

-- such a view carries the opening
pub is_live : (v : View) → IsAlone v → v.live ≡ true
is_live v is = ap (λ (z : View). z.live) is

-- a look leaves the view
pub line_reads : (id : ℕ) (v : View) → v.live ≡ true → Turns (Ruled 8) id v (λ x. x) (λ v x y w. Reads v x w)
line_reads id v live x = ruled_steps 8 v.opening id v (λ ws. ws) (Reads v) live refl (reads 8 v.opening id v live) x

-- the look after two passes became one
pub line_settles : (id : ℕ) (v : View) → v.live ≡ true → Turns (Ruled 8) id v (λ x. x) (λ v x y w. Settles v w)
line_settles id v live x = ruled_steps 8 v.opening id v (λ ws. ws) (λ _. Settles v) live refl (settles 8 v.opening id v live) x

-- the exchange of the line for one with the access's word
pub line_tries : (o : Opening) (id : ℕ) (v : View) → v ≡ knower o v.held v.seen → (current new : List ℕ) (g next src : ℕ) (access : Access)
    → g ≡ granule_of access.addr o.region → has v.held src ≡ true → IsLawful access → lies_in access.addr access.len o.region ≡ true
    → Applies o access (slice_index current g) next → new ≡ set current g next
    → Turns (Ruled 8) id v (λ x. if pointwise nat_eq x current then new else x) (λ v x y w. Tries v current src access x w)
line_tries o id v is current new g next src access place holds lawful fits applies made x =
    ruled_steps 8 o id v (λ ws. if pointwise nat_eq ws current then new else ws) (Tries v current src access) (ap (λ (z : View). z.live) is)
    (ap (λ (z : View). z.opening) is) (tries 8 o id v is current new g next src access place holds lawful fits applies made) x

-- one number gets a pass of its own
pub line_gives : (id : ℕ) (v : View) (src : ℕ) → v.live ≡ true → has v.held src ≡ true → Forks (Ruled 8) id v (rest_of src v) (alone src v)
line_gives id v src live holds = ruled_parts 8 v.opening id v (rest_of src v) (alone src v) live refl (splits 8 v.opening id v src live holds)

-- a pass goes whole into a new one
pub line_moves : (id : ℕ) (v : View) → v.live ≡ true → Forks (Ruled 8) id v gone v
line_moves id v live = ruled_parts 8 v.opening id v gone v live refl (moves 8 v.opening id v)

-- two passes become one
pub line_unites : (id : ℕ) (v : View) (other : ℕ) (w : View) → v.live ≡ true → Merges (Ruled 8) id v other w (both v w) gone
line_unites id v other w live = ruled_unites 8 v.opening id v other w (both v w) gone live refl (unites 8 v.opening id v other w live)

-- what the exchange of the line shows its caller
pub line_tried : (r : Result (List ℕ) (List ℕ)) (v w : View) (current : List ℕ) (src : ℕ) (access : Access)
    → MatchResult r (λ x. (pointwise nat_eq x current ≡ true) × Tries v current src access x w) (λ x. (pointwise nat_eq x current ≡ false) × Tries v current src access x w)
    → MatchResult r (λ _. Replaces v current src access w) (λ _. w ≡ v)
line_tried (Ok x) v w current src access told =
    let same = (bytes_decides x current).0 told.0 in
    subst (λ ws. Replaces v ws src access w) same (told.1.0 same)
line_tried (Err x) v w current src access told = told.1.1 (λ same. absurd (true≢false (sym ((bytes_decides x current).1 same) ∙ told.0)))

-- the first view is set to an opening
pub line_opens : (o : Opening) (id : ℕ) (v : View) → v ≡ newcomer → IsRegion o.region → o.region.granules ≤ 8
    → Forks (Ruled 8) id v (knower o (all_below o.requesters) []) gone
line_opens o id v first is room =
    subst (λ (z : View). Forks (Ruled 8) id z (knower o (all_below o.requesters) []) gone) (sym first) (ruled_opens 8 o id is room)
