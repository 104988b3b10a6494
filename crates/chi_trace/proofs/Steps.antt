-- an operation at a memory, and at the word of its granule there
use Rattle.std.proofs.Common.{◌≡◌, ℕ, ◌*◌, ◌/◌, ◌%◌, ◌^◌, ◌<◌, ◌==◌, false, [], ◌∷◌, IfSome, sym, ap, ◌∙◌, arith, add-zero, lit<}
use Rattle.std.proofs.lemmas.Bool.{eqb-false}
use Rattle.std.proofs.lemmas.Option.{IfSome_then}
use Rattle.chi_fields.specs.Access.{IsLawful}
use Rattle.chi_lanes.specs.After.{after, answer}
use Rattle.chi_lanes.specs.Memory.{Memory, IsMemory, granule_start, word_at}
use Rattle.chi_lanes.proofs.AfterLemmas.{IsMemory-after, word_at-after_other}
use Rattle.chi_lanes.proofs.MemoryLemmas.{word_at-below}
use Rattle.chi_history.specs.Openings.{opened}
use Rattle.chi_history.proofs.WordLemmas.{IsMemory-opening_memory, word-opening_memory}
use Rattle.chi_trace.specs.declared.operation.Operation.{Operation}
use Rattle.chi_trace.specs.Explains.{word_of}
use Rattle.chi_trace.specs.Granules.{Fits, granule_of, next, with_word}
use Rattle.chi_trace.proofs.Agree.{Same, after_of_same, agree, answer_of_same}

pub IsMemory-with_word : (start w : ℕ) → IsMemory (with_word start w)
IsMemory-with_word start w = IsMemory-opening_memory (opened (record { base = start; granules = 1 }) 1 (w ∷ []))

pub word_at-with_word : (start w : ℕ) → w < 2 ^ 64 → word_at (with_word start w) start ≡ w
word_at-with_word start w fits =
    ap (word_at (with_word start w)) (sym (add-zero start))
    ∙ word-opening_memory (opened (record { base = start; granules = 1 }) 1 (w ∷ [])) 0 (lit< tt) fits

-- a memory has the bytes of its word
of_word : (op : Operation) (m : Memory) → IsMemory m
    → Same (granule_start op.access.addr) 8 (with_word (granule_start op.access.addr) (word_at m (granule_start op.access.addr))) m
of_word op m is =
    let start : ℕ = granule_start op.access.addr in
    agree (with_word start (word_at m start)) m start (IsMemory-with_word start (word_at m start)) is
    (word_at-with_word start (word_at m start) (word_at-below m is start))

-- a reply that was seen and is the memory's answer fits the word there
pub fits_at : (op : Operation) (m : Memory) → IsMemory m → IsLawful op.access → IfSome op.reply (λ reply. reply ≡ answer op.access m)
    → Fits op (word_at m (granule_start op.access.addr))
unfolding Fits
fits_at op m is lawful answered = IfSome_then op.reply answered (λ reply same. same ∙ sym (answer_of_same op.access _ m lawful (of_word op m is)))

-- and one that fits the word is the memory's answer
pub answer_at : (op : Operation) (m : Memory) → IsMemory m → IsLawful op.access → Fits op (word_at m (granule_start op.access.addr))
    → IfSome op.reply (λ reply. reply ≡ answer op.access m)
unfolding Fits
answer_at op m is lawful fits = IfSome_then op.reply fits (λ reply same. same ∙ answer_of_same op.access _ m lawful (of_word op m is))

pub next_at : (op : Operation) (m : Memory) → IsMemory m → IsLawful op.access
    → next op (word_at m (granule_start op.access.addr)) ≡ word_at (after op.access m) (granule_start op.access.addr)
unfolding next
next_at op m is lawful = after_of_same op.access _ m lawful (of_word op m is)

pub next-below : (op : Operation) (w : ℕ) → IsLawful op.access → next op w < 2 ^ 64
unfolding next
next-below op w lawful =
    word_at-below (after op.access (with_word (granule_start op.access.addr) w))
    (IsMemory-after op.access (with_word (granule_start op.access.addr) w) (IsMemory-with_word _ w) lawful) (granule_start op.access.addr)

-- the word of a granule, by the address of an operation of it
pub word_of-own : (op : Operation) (m : Memory) (g : ℕ) → granule_of op ≡ g → word_of m g ≡ word_at m (granule_start op.access.addr)
word_of-own op m g here =
    let start : 8 * g ≡ granule_start op.access.addr = omega arith in
    ap (word_at m) start

-- an operation leaves its own granule the word that follows there
pub word_of-next : (op : Operation) (m : Memory) (g : ℕ) → IsMemory m → IsLawful op.access → granule_of op ≡ g
    → next op (word_of m g) ≡ word_of (after op.access m) g
word_of-next op m g is lawful here =
    ap (next op) (word_of-own op m g here) ∙ (next_at op m is lawful ∙ sym (word_of-own op (after op.access m) g here))

-- and every other granule its word
pub word_of-other : (op : Operation) (m : Memory) (g : ℕ) → IsLawful op.access → (granule_of op == g) ≡ false
    → word_of (after op.access m) g ≡ word_of m g
word_of-other op m g lawful other =
    let aligned : (8 * g) % 8 ≡ 0 = omega arith in
    word_at-after_other op.access m (8 * g) lawful aligned
    (λ same. let here : op.access.addr / 8 ≡ g = omega (arith, same) in eqb-false (granule_of op) g other here)
