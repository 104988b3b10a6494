-- the steps of the table, as it asks for them
use Rattle.std.proofs.Common.{◌≡◌, ℕ, ◌<◌, ◌==◌, true, set, slice_index, refl, ap, subst, sym}
use prog.Atomic.{either}
use mathlib.Core.Option as plain
use Rattle.atomic_table.specs.Table.{Allows, Joins, Me, Splits, State, keeps, step}
use Rattle.chi_fields.specs.Extent.{granule_of, lies_in}
use Rattle.chi_fields.specs.Access.{IsLawful}
use Rattle.chi_history.specs.declared.opening.Opening.{Opening}
use Rattle.chi_history.specs.NumberLists.{has}
use Rattle.chi_rule.specs.declared.view.View.{View}
use Rattle.chi_rule.specs.declared.purpose.Purpose.{Purpose}
use Rattle.chi_rule.specs.Rule.{Kept}
use Rattle.chi_rule.specs.StepFacts.{Applies, Exchanges, Looks, ReadsAt, Settles}
use Rattle.chi_rule.specs.Views.{alone, both, gone, knower, rest_of}
use Rattle.chi_rule.proofs.ExchangeLemmas.{exchanges}
use Rattle.chi_rule.proofs.JoinLemmas.{unites}
use Rattle.chi_rule.proofs.SplitLemmas.{splits}
use Rattle.chi_rule.proofs.StepLemmas.{looks, reads_at, settles, unwritten}
use Rattle.chi_rule.proofs.Steps.{Steps}
use Rattle.chi_bookstore.specs.TableSteps.{looked, read_one, served, settled}

abbrev pub Rule : Opening → State Purpose View → Type 0
Rule o s = Kept o.region.granules o s.words s.views

-- a step that takes no slot
pub allows : (o : Opening) (slots id : ℕ) (me : Me Purpose View) (i : ℕ) (f : ℕ → ℕ) (then : ℕ → View → Type 0)
    → Steps o.region.granules o id me.0 (λ ws. set ws i (f (slice_index ws i))) (λ ws. then (slice_index ws i))
    → Allows (Rule o) slots id me i f (λ n m. then n m.0 × (m.1 ≡ me.1))
allows o slots id me i f then step s rule _ at _ = let t = step s.words s.views rule at in (t.0, keeps, tt, t.1, (t.2, refl))

pub book_looks : (o : Opening) (slots id : ℕ) (me : Me Purpose View) (g : ℕ) → me.0 ≡ knower o me.0.held me.0.seen → g < o.region.granules
    → Allows (Rule o) slots id me g (λ n. n) (looked (step slots g 0 0 plain.none) me)
book_looks o slots id me g is under =
    allows o slots id me g (λ n. n) (Looks me.0 g) (unwritten o.region.granules o id me.0 (λ ws. Looks me.0 g (slice_index ws g)) g (looks o.region.granules o id me.0 is g under))

pub book_exchanges : (o : Opening) (slots id : ℕ) (me : Me Purpose View) (g first next : ℕ) (purpose : Purpose) → me.0 ≡ knower o me.0.held me.0.seen
    → g ≡ granule_of purpose.access.addr o.region → has me.0.held purpose.src ≡ true → IsLawful purpose.access → lies_in purpose.access.addr purpose.access.len o.region ≡ true
    → Applies o purpose.access first next
    → Allows (Rule o) slots id me g (λ n. either (n == first) next n) (served (step slots g first next (plain.some purpose)) me)
book_exchanges o slots id me g first next purpose is place holds lawful fits applies s rule _ at _ =
    let t = exchanges o.region.granules o id me.0 is g first next purpose.src purpose.access place holds lawful fits applies s.words s.views rule at in
    let found : ℕ = slice_index s.words g in
    (t.0, keeps, tt, t.1, ((λ said e. subst (λ (z : Purpose). Exchanges me.0 first z.src z.access found t.0) (plain.some-injective purpose said e) t.2), refl))

pub book_reads : (o : Opening) (slots id : ℕ) (me : Me Purpose View) (g : ℕ) → me.0 ≡ knower o me.0.held me.0.seen → g < o.region.granules
    → Allows (Rule o) slots id me g (λ n. n) (read_one (step slots g 0 0 plain.none) me)
book_reads o slots id me g is under =
    let live : me.0.live ≡ true = ap (λ (z : View). z.live) is in
    let inside : g < me.0.opening.region.granules = subst (λ (z : Opening). g < z.region.granules) (sym (ap (λ (z : View). z.opening) is)) under in
    allows o slots id me g (λ n. n) (ReadsAt me.0 g) (unwritten o.region.granules o id me.0 (λ ws. ReadsAt me.0 g (slice_index ws g)) g (reads_at o.region.granules o id me.0 live g inside))

pub book_settles : (o : Opening) (slots id : ℕ) (me : Me Purpose View) → me.0.live ≡ true → Allows (Rule o) slots id me 0 (λ n. n) (settled (step slots 0 0 0 plain.none) me)
book_settles o slots id me live =
    allows o slots id me 0 (λ n. n) (λ _. Settles me.0) (unwritten o.region.granules o id me.0 (λ _. Settles me.0) 0 (settles o.region.granules o id me.0 live))

pub book_splits : (o : Opening) (id : ℕ) (v : View) (src : ℕ) → v.live ≡ true → has v.held src ≡ true → Splits (Rule o) id v (rest_of src v) (alone src v)
book_splits o id v src live holds s rule at = splits o.region.granules o id v src live holds s.words s.views rule at

pub book_unites : (o : Opening) (id : ℕ) (v : View) (other : ℕ) (w : View) → v.live ≡ true → Joins (Rule o) id v other w (both v w) gone
book_unites o id v other w live s rule at differ there = unites o.region.granules o id v other w live s.words s.views rule at differ there
