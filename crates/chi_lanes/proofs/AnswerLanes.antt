-- the lanes of an answer: a shifted value in one half of the packet, and 0 in the other
use Rattle.std.proofs.Common.{◌≡◌, ℕ, ◌+◌, ◌-◌, ◌*◌, ◌%◌, ◌^◌, ◌<◌, ◌≤◌, List, ◌++◌, replicate, refl, arith, append_assoc, drop-drop}
use Rattle.std.proofs.lemmas.List.{replicate-append-replicate, take-replicate, drop-replicate}
use Rattle.std.proofs.lemmas.Nat.{shl_whole}
use borrow.Rule.Slice.PartMut.{put_mid}
use Rattle.chi_lanes.specs.Bytes.{little_bytes}
use Rattle.chi_lanes.specs.Packet.{in_lanes}
use Rattle.chi_lanes.proofs.Digits.{pow_bytes, pow_bytes_pos, length-little_bytes, three_runs}
use Rattle.chi_lanes.proofs.Masks.{little_bytes-zero}

-- zeros before and after a run join the zeros round them
zeros_around : (a k r s : ℕ) (bs : List ℕ) →
    replicate a 0 ++ ((replicate k 0 ++ (bs ++ replicate r 0)) ++ replicate s 0) ≡ replicate (a + k) 0 ++ (bs ++ replicate (r + s) 0)
zeros_around a k r s bs =
    rw (← replicate-append-replicate {A = ℕ} a k 0, ← replicate-append-replicate {A = ℕ} r s 0) (simp append_assoc)

-- the bytes of a value moved up by k bytes
shifted_bytes : (k len value : ℕ) → k + len ≤ 8 → value < 256 ^ len →
    little_bytes 8 (value * 2 ^ (8 * k) % 2 ^ 64) ≡ replicate k 0 ++ (little_bytes len value ++ replicate (8 - k - len) 0)
shifted_bytes k len value room fits =
    let width : 8 * len + 8 * k ≤ 64 = omega arith in
    let small : value < 2 ^ (8 * len) = rw (← pow_bytes len) fits in
    let split : 8 ≡ k + (len + (8 - k - len)) = omega arith in
    let number : value * 256 ^ k ≡ 0 + 256 ^ k * (value + 256 ^ len * 0) = omega arith in
    rw (shl_whole value (8 * len) (8 * k) 64 small width, ← pow_bytes k, number, three_runs k len (8 - k - len) 8 0 value 0 split (pow_bytes_pos k) fits, little_bytes-zero k, little_bytes-zero (8 - k - len)) refl

-- eight bytes written into a packet of zeros
pub answer_is : (first lane len value : ℕ) (bs : List ℕ) → first ≤ 8 → first + lane % 8 ≡ lane → lane % 8 + len ≤ 8 → value < 256 ^ len →
    bs ≡ little_bytes 8 (value * 2 ^ (8 * (lane % 8)) % 2 ^ 64) →
    put_mid first 8 (replicate 16 0) bs ≡ in_lanes lane (little_bytes len value)
answer_is first lane len value bs half place room fits written =
    let front : first ≤ 16 = omega arith in
    let after : 8 - lane % 8 - len + (16 - (first + 8)) ≡ 16 - lane - len = omega arith in
    rw (written, shifted_bytes (lane % 8) len value room fits, take-replicate {X = ℕ} first 16 0 front, drop-drop 8 first (replicate {A = ℕ} 16 0), drop-replicate {X = ℕ} (first + 8) 16 0, zeros_around first (lane % 8) (8 - lane % 8 - len) (16 - (first + 8)) (little_bytes len value), place, after, length-little_bytes len value)
    refl
