-- how many bins each input added, one input after the other
use Rattle.std.proofs.Common.{◌≡◌, ℕ, ◌+◌, ◌-◌, Bool, List, [], ◌∷◌, ◌++◌, Contains, append_assoc, append-nil, Option, cond, count_by, refl, sym, ap, ◌∙◌, arith}
use Rattle.std.proofs.lemmas.List.Elements.{Contains-append_right}
use Rattle.std.proofs.lemmas.List.Sums.{sum_by-cons}
use Rattle.chi_cover.specs.declared.bin.Bin.{Bin}
use Rattle.chi_cover.specs.Bins.{all_bins}
use Rattle.chi_cover.specs.Counts.{count_in, is_covered}
use Rattle.chi_check.specs.Cover.{AreCounts, Told, added_after, added_of, counts_of, covered_by, covered_in}

-- two tests that agree on what a list has pass as often
same_count : {X : Type 0} (p q : X → Bool) (xs : List X) → ((x : X) → Contains xs x → p x ≡ q x) → count_by p xs ≡ count_by q xs
same_count p q [] same = refl
same_count {X} p q (x ∷ xs) same =
    sum_by-cons (λ (y : X). cond (p y) 1 0) x xs ∙ (ap (λ (b : Bool). cond b 1 0 + count_by p xs) (same x (0, omega arith, refl))
    ∙ (ap (λ (n : ℕ). cond (q x) 1 0 + n) (same_count p q xs (λ y there. same y (Contains-append_right (x ∷ []) xs y there))) ∙ sym (sum_by-cons (λ (y : X). cond (q y) 1 0) x xs)))

-- as many bins are covered by counts as by the inputs that they are of
same_covered : (goals : Bin → Option ℕ) (told : List Told) (counts : List ℕ) → AreCounts told counts → covered_in goals counts ≡ covered_by goals told
same_covered goals told counts are = same_count (λ bin. is_covered (goals bin) (count_in counts bin)) (λ bin. is_covered (goals bin) (counts_of told bin)) all_bins (λ bin here. ap (is_covered (goals bin)) (are bin here))

-- one input more
after_more : (goals : Bin → Option ℕ) (before told : List Told) (one : Told)
    → added_after goals before (told ++ one ∷ []) ≡ added_after goals before told ++ (covered_by goals ((before ++ told) ++ one ∷ []) - covered_by goals (before ++ told)) ∷ []
unfolding added_after
after_more goals before [] one = ap (λ (l : List Told). (covered_by goals (l ++ one ∷ []) - covered_by goals l) ∷ []) (sym (append-nil before))
after_more goals before (t ∷ told) one =
    let with_it = before ++ t ∷ [] in
    ap (λ (l : List ℕ). (covered_by goals with_it - covered_by goals before) ∷ l)
    (after_more goals with_it told one
    ∙ ap (λ (l : List Told). added_after goals with_it told ++ (covered_by goals (l ++ one ∷ []) - covered_by goals l) ∷ []) (append_assoc before (t ∷ []) told))

-- what was added by inputs, and by one more
pub added_more : (goals : Bin → Option ℕ) (told : List Told) (one : Told) (old_counts new_counts old_added new_added : List ℕ) → AreCounts told old_counts → AreCounts (told ++ one ∷ []) new_counts
    → old_added ≡ added_of goals told → new_added ≡ old_added ++ (covered_in goals new_counts - covered_in goals old_counts) ∷ [] → new_added ≡ added_of goals (told ++ one ∷ [])
added_more goals told one old_counts new_counts old_added new_added old new were now =
    now ∙ (ap (λ (l : List ℕ). l ++ (covered_in goals new_counts - covered_in goals old_counts) ∷ []) were
    ∙ (ap (λ (n : ℕ). added_of goals told ++ (n - covered_in goals old_counts) ∷ []) (same_covered goals (told ++ one ∷ []) new_counts new)
    ∙ (ap (λ (n : ℕ). added_of goals told ++ (covered_by goals (told ++ one ∷ []) - n) ∷ []) (same_covered goals told old_counts old) ∙ sym (after_more goals [] told one))))
