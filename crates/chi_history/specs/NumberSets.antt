-- sets of requester numbers
use Rattle.std.specs.Prelude.{◌≡◌, ℕ, ◌==◌, nat_lt, Bool, true, false, not, ◌&&◌, ◌||◌, List, All}
use Rattle.chi_fields.specs.declared.request.Request.{Request}

-- the set of the numbers that pass a test
abbrev pub Held : Type 0
Held = ℕ → Bool

abbrev pub nobody : Held
nobody = λ _. false

-- every number below this one
abbrev pub below : ℕ → Held
below n = λ r. nat_lt r n

abbrev pub only : ℕ → Held
only src = λ r. r == src

abbrev pub without : ℕ → Held → Held
without src held = λ r. held r && not (r == src)

abbrev pub union : Held → Held → Held
union held other = λ r. held r || other r

-- both sets share no number
abbrev pub Apart : Held → Held → Type 0
Apart held other = (r : ℕ) → held r ≡ true → other r ≡ false

-- each request is of a requester of the set
abbrev pub AllFrom : Held → List Request → Type 0
AllFrom held qs = All (λ q. held q.src ≡ true) qs
