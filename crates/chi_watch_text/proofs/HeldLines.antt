-- a line that a reader holds whole
use Rattle.std.proofs.Common.{◌≡◌, ℕ, zero, suc, ◌+◌, ◌<◌, ◌==◌, true, List, [], ◌∷◌, ◌++◌, Option, Some, None, IfSome, if◌then◌else◌, length, take, slice_index, sym, ap, subst, ◌∙◌, arith}
use Rattle.std.specs.Io.BufRead.{drop_through, take_through}
use Rattle.std.specs.Io.KnownBytes.{Consumes}
use Rattle.std.proofs.lemmas.Bool.{false_from_ne_true}

-- the rest follows a line
abbrev IsLine : List ℕ → List ℕ → Type 0
IsLine line rest = (take_through 10 (line ++ rest) ≡ line) × (drop_through 10 (line ++ rest) ≡ rest)

-- the first line feed of some bytes stands at a place: what stands up to it is a line
line_to : (held rest : List ℕ) (k : ℕ) → k < length held → (slice_index held k == 10) ≡ true → ((m : ℕ) → m < k → (slice_index held m == 10) ≡ true → ⊥)
    → IsLine (take (suc k) held) rest
line_to [] rest k within at before = absurd (omega (arith, within))
line_to (b ∷ bs) rest zero within at before =
    (ap (λ t. if t then b ∷ [] else b ∷ take_through 10 rest) at, ap (λ t. if t then rest else drop_through 10 rest) at)
line_to (b ∷ bs) rest (suc k) within at before =
    let other = false_from_ne_true (b == 10) (before 0 (omega arith)) in
    let later = line_to bs rest k (omega (arith, within)) at (λ m less is. before (suc m) (omega (arith, less)) is) in (
      ap (λ t. if t then b ∷ [] else b ∷ take_through 10 (take (suc k) bs ++ rest)) other ∙ ap (λ l. b ∷ l) later.0,
      ap (λ t. if t then take (suc k) bs ++ rest else drop_through 10 (take (suc k) bs ++ rest)) other ∙ later.1,
    )

-- once the bytes up to it are consumed the line was read
pub line_read : (old new : Option (List ℕ)) (held : List ℕ) (k : ℕ) → k < length held → (slice_index held k == 10) ≡ true → ((m : ℕ) → m < k → (slice_index held m == 10) ≡ true → ⊥)
    → Consumes old new (take (k + 1) held) → IfSome old (λ text. (take (k + 1) held ≡ take_through 10 text) × (new ≡ Some (drop_through 10 text)))
line_read None new held k within at before consumed = tt
line_read (Some text) None held k within at before consumed = absurd consumed
line_read (Some text) (Some rest) held k within at before consumed =
    let next : suc k ≡ k + 1 = omega arith in
    let line = subst (λ n. IsLine (take n held) rest) next (line_to held rest k within at before) in
    (sym (ap (take_through 10) consumed ∙ line.0), ap Some (sym (ap (drop_through 10) consumed ∙ line.1)))
