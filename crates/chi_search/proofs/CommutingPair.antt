-- operations of one granule that leave a memory the same in both orders, and answer the same
use Rattle.std.proofs.Common.{◌≡◌, ℕ, IfSome, sym, ap, subst, ◌∙◌}
use Rattle.std.proofs.lemmas.Option.{IfSome_then}
use Rattle.chi_fields.specs.Access.{Access, IsLawful}
use Rattle.chi_lanes.specs.After.{after, answer}
use Rattle.chi_lanes.specs.Memory.{Memory, IsMemory, granule_start, word_at}
use Rattle.chi_lanes.proofs.AfterLemmas.{IsMemory-after}
use Rattle.chi_trace.specs.declared.operation.Operation.{Operation}
use Rattle.chi_trace.specs.Granules.{Fits, next, with_word}
use Rattle.chi_trace.proofs.Agree.{Same, word_of_same}
use Rattle.chi_trace.proofs.Steps.{IsMemory-with_word, answer_at, fits_at, next-below, next_at, word_at-with_word}
use Rattle.chi_search.specs.Commuting.{ComesBefore, MovesBefore}

-- of each memory: neither changes the other's answer, and the granule has the same bytes after both, in either order
pub record Commute (x z : Access) (m : Memory) : Type 0 where
  pub answers_x : answer x (after z m) ≡ answer x m
  pub answers_z : answer z (after x m) ≡ answer z m
  pub leave : Same (granule_start x.addr) 8 (after z (after x m)) (after x (after z m))

-- an operation at a memory, by where its granule starts
abbrev pub At : Operation → ℕ → Type 0
At op s = granule_start op.access.addr ≡ s

next_here : (op : Operation) (s : ℕ) (m : Memory) → At op s → IsMemory m → IsLawful op.access → next op (word_at m s) ≡ word_at (after op.access m) s
next_here op s m here is lawful = subst (λ t. next op (word_at m t) ≡ word_at (after op.access m) t) here (next_at op m is lawful)

fits_here : (op : Operation) (s : ℕ) (m : Memory) → At op s → IsMemory m → IsLawful op.access → IfSome op.reply (λ reply. reply ≡ answer op.access m)
    → Fits op (word_at m s)
fits_here op s m here is lawful answered = subst (λ t. Fits op (word_at m t)) here (fits_at op m is lawful answered)

answer_here : (op : Operation) (s : ℕ) (m : Memory) → At op s → IsMemory m → IsLawful op.access → Fits op (word_at m s)
    → IfSome op.reply (λ reply. reply ≡ answer op.access m)
answer_here op s m here is lawful fits = answer_at op m is lawful (subst (λ t. Fits op (word_at m t)) (sym here) fits)

-- from the word of a memory on
at_memory : (x z : Operation) (m : Memory) → IsLawful x.access → IsLawful z.access → At z (granule_start x.access.addr) → IsMemory m
    → Commute x.access z.access m
    → Fits z (word_at m (granule_start x.access.addr)) → Fits x (next z (word_at m (granule_start x.access.addr)))
    → ComesBefore x z (word_at m (granule_start x.access.addr))
at_memory x z m lawful_x lawful_z here is commute fits_z fits_x = record {
  fits = fits_at x m is lawful_x
      (IfSome_then x.reply (answer_at x after_z is_z lawful_x (subst (Fits x) next_z fits_x)) (λ reply same. same ∙ commute.answers_x));
  below = next-below x (word_at m s) lawful_x;
  fits_after = subst (Fits z) (sym next_x)
      (fits_here z s after_x here is_x lawful_z
      (IfSome_then z.reply (answer_here z s m here is lawful_z fits_z) (λ reply same. same ∙ sym commute.answers_z)));
  same = ap (next z) next_x ∙ next_here z s after_x here is_x lawful_z ∙ word_of_same (after z.access after_x) (after x.access after_z) s commute.leave
      ∙ sym (next_at x after_z is_z lawful_x) ∙ ap (next x) (sym next_z);
}
  where
    s : ℕ
    s = granule_start x.access.addr

    after_x : Memory
    after_x = after x.access m

    after_z : Memory
    after_z = after z.access m

    is_x : IsMemory after_x
    is_x = IsMemory-after x.access m is lawful_x

    is_z : IsMemory after_z
    is_z = IsMemory-after z.access m is lawful_z

    next_x : next x (word_at m s) ≡ word_at after_x s
    next_x = next_at x m is lawful_x

    next_z : next z (word_at m s) ≡ word_at after_z s
    next_z = next_here z s m here is lawful_z

-- what is so of each memory is so of each word
pub pair : (x z : Operation) → IsLawful x.access → IsLawful z.access → granule_start z.access.addr ≡ granule_start x.access.addr
    → ((m : Memory) → IsMemory m → Commute x.access z.access m) → MovesBefore x z
pair x z lawful_x lawful_z here commute w below fits_z fits_x =
    let s = granule_start x.access.addr in
    let word = word_at-with_word s w below in
    let is = IsMemory-with_word s w in
    subst (ComesBefore x z) word
    (at_memory x z (with_word s w) lawful_x lawful_z here is (commute (with_word s w) is) (subst (Fits z) (sym word) fits_z)
    (subst (λ v. Fits x (next z v)) (sym word) fits_x))
