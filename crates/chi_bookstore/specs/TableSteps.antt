-- what the steps of the table show
use Rattle.std.specs.Prelude.{◌≡◌, ℕ}
use mathlib.Core.Option as plain
use Rattle.atomic_table.specs.Table.{Me, Step}
use Rattle.chi_rule.specs.declared.view.View.{View}
use Rattle.chi_rule.specs.declared.purpose.Purpose.{Purpose}
use Rattle.chi_rule.specs.StepFacts.{Exchanges, Looks, ReadsAt, Settles}

abbrev pub looked : Step Purpose → Me Purpose View → ℕ → Me Purpose View → Type 0
looked s m n m' = Looks m.0 s.word n m'.0 × (m'.1 ≡ m.1)

abbrev pub served : Step Purpose → Me Purpose View → ℕ → Me Purpose View → Type 0
served s m n m' = ((purpose : Purpose) → s.said ≡ plain.some purpose → Exchanges m.0 s.first purpose.src purpose.access n m'.0) × (m'.1 ≡ m.1)

abbrev pub read_one : Step Purpose → Me Purpose View → ℕ → Me Purpose View → Type 0
read_one s m n m' = ReadsAt m.0 s.word n m'.0 × (m'.1 ≡ m.1)

abbrev pub settled : Step Purpose → Me Purpose View → ℕ → Me Purpose View → Type 0
settled s m n m' = Settles m.0 m'.0 × (m'.1 ≡ m.1)
