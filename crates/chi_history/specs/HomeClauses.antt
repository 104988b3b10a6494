-- what a call of a home adds to the history
use Rattle.std.specs.Prelude.{◌≡◌, ℕ, ◌<◌, ◌≤◌, List, [], ◌∷◌, ◌++◌, ◌⊎◌}
use Rattle.chi_fields.specs.Extent.{granule_of}
use Rattle.chi_fields.specs.Access.{Access}
use Rattle.chi_lanes.specs.declared.reply.Reply.{Reply}
use Rattle.chi_history.specs.declared.entry.Entry.{Entry}
use Rattle.chi_history.specs.declared.opening.Opening.{Opening}
use Rattle.chi_history.specs.declared.served.Served.{Served}
use Rattle.chi_history.specs.declared.served.Served.TheVariants.{Done, Retry}
use Rattle.chi_history.specs.NumberSets.{Held, nobody}
use Rattle.chi_history.specs.History.{IsFreeOf, hits}

abbrev pub entry : ℕ → Access → Reply → Entry
entry src access reply = record { src = src; access = access; reply = reply }

-- The call added one entry, after some of others. The granule was changed by at least so many of these.
abbrev pub Completes : Opening → Held → List Entry → List Entry → ℕ → Access → Reply → ℕ → Type 0
Completes o held seen seen' src access reply lost =
    (mid : List Entry) × (seen' ≡ (seen ++ mid) ++ entry src access reply ∷ []) × IsFreeOf held mid
    × (lost ≤ hits o seen mid (granule_of access.addr o.region) nobody)

-- The call added no entry. The granule was changed by at least so many entries of others.
abbrev pub Retries : Opening → Held → List Entry → List Entry → Access → ℕ → Type 0
Retries o held seen seen' access lost =
    (mid : List Entry) × (seen' ≡ seen ++ mid) × IsFreeOf held mid
    × (lost ≤ hits o seen mid (granule_of access.addr o.region) nobody)

-- done: one entry more, and fewer lost tries than the limit. retry: no entry, and as many lost tries as the
-- limit, at least one; the credit is the requester's
abbrev pub IsServed : Opening → ℕ → Held → List Entry → List Entry → ℕ → Access → Served → Type 0
IsServed o limit held seen seen' src access (Done reply lost) =
    Completes o held seen seen' src access reply lost × ((lost < limit) ⊎ ((limit ≡ 0) × (lost ≡ 0)))
IsServed o limit held seen seen' src access (Retry credit lost) =
    Retries o held seen seen' access lost × (lost ≡ limit) × (1 ≤ limit) × (credit ≡ src)

-- rejoin: the longer of both histories, one being a prefix of the other; what follows each is of others
pub record Joins (held : Held) (seen : List Entry) (other_held : Held) (other_seen seen' : List Entry) : Type 0 where
  pub more : List Entry
  pub other_more : List Entry
  pub grown : seen' ≡ seen ++ more
  pub free : IsFreeOf held more
  pub other_grown : seen' ≡ other_seen ++ other_more
  pub other_free : IsFreeOf other_held other_more
  pub one_empty : (more ≡ []) ⊎ (other_more ≡ [])
