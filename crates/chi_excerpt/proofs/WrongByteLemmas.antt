-- the wrong bytes of an operand, one byte after the other
use Rattle.std.proofs.Common.{◌≡◌, ℕ, ◌+◌, Bool, cond, List, [], ◌∷◌, ◌++◌, filter, map, refl, ap, sym, ◌∙◌}
use Rattle.std.proofs.lemmas.List.FromFn.{filter_of_map_range_with_len_more}
use Rattle.std.specs.List.{range_with_len}
use Rattle.chi_excerpt.specs.declared.wrong_bytes.ReturnedByte.{ReturnedByte}

-- one byte more is kept exactly where it passes a test
pub byte_more : (p : ReturnedByte → Bool) (f : ℕ → ReturnedByte) (first at : ℕ) (byte : ReturnedByte) (test : Bool) (before after : List ReturnedByte)
    → byte ≡ f (first + at) → test ≡ p byte → before ≡ filter p (map f (range_with_len first at)) → after ≡ before ++ cond test (byte ∷ []) []
    → after ≡ filter p (map f (range_with_len first (at + 1)))
byte_more p f first at byte test before after is passes so_far grown =
    let kept = filter p (map f (range_with_len first at)) in
    grown ∙ (ap (λ bytes. bytes ++ cond test (byte ∷ []) []) so_far ∙ (ap (λ t. kept ++ cond t (byte ∷ []) []) passes
    ∙ (ap (λ b. kept ++ cond (p b) (b ∷ []) []) is ∙ sym (filter_of_map_range_with_len_more p f first at (first + at) refl))))
