-- the members so far stand before those that are left
use Rattle.std.proofs.Common.{◌≡◌, ℕ, ◌-◌, ◌≤◌, length}
use Rattle.json.specs.Json.{members, value}
use Rattle.arrayvec.specs.ArrayVec.{array_vec_len}
use Rattle.serde_json.specs.Read.{converted, of_members}
use Rattle.chi_json.specs.Flat.{flat_members}
use Rattle.chi_json.proofs.next.add_members.Given as goal

abbrev pub invariant-members : goal.invariant-members
invariant-members l =
    (n : ℕ) × (length l.reader ≤ n) × (n ≤ length l.initial.reader)
    × ((depth : ℕ) → converted (λ ms. of_members ms (flat_members l.initial.object)) (members (value depth) (length l.initial.reader) l.initial.reader) ≡ converted (λ ms. of_members ms (flat_members l.object)) (members (value depth) n l.reader))

abbrev pub decreases-members : goal.decreases-members
decreases-members l = 16 - array_vec_len l.object.members
