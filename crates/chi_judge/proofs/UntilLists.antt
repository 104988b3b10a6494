-- what had happened before a time, where there is one: of operations told one after the other, of one granule, in another order, and twice
use Rattle.std.proofs.Common.{◌≡◌, ℕ, zero, suc, List, [], ◌++◌, Option, None, Some, filter, refl}
use Rattle.std.specs.Prelude.{IsPermutation}
use Rattle.std.proofs.lemmas.List.Sorted.{IsPermutation-refl}
use Rattle.chi_trace.specs.declared.operation.Operation.{Operation}
use Rattle.chi_trace.specs.AtPlaces.{is_in}
use Rattle.chi_judge.specs.Until.{until}
use Rattle.chi_judge.proofs.CutShort.{cut_before-append, cut_before_twice}
use Rattle.chi_judge.proofs.Leading.{cut_filter, cut_moved}

pub until-append : (time : Option ℕ) (a b : List Operation) → until time (a ++ b) ≡ until time a ++ until time b
until-append None a b = refl
until-append (Some time) a b = cut_before-append time a b

pub until-filter : (time : Option ℕ) (g : ℕ) (ops : List Operation) → filter (is_in g) (until time ops) ≡ until time (filter (is_in g) ops)
until-filter None g ops = refl
until-filter (Some zero) g ops = refl
until-filter (Some (suc time)) g ops = cut_filter time g ops

pub until-permutation : (time : Option ℕ) (a b : List Operation) → IsPermutation a b → IsPermutation (until time a) (until time b)
until-permutation None a b moved = moved
until-permutation (Some zero) a b moved = IsPermutation-refl []
until-permutation (Some (suc time)) a b moved = cut_moved time a b moved

pub until-fixed : (time : ℕ) (ops : List Operation) → until (Some time) (until (Some time) ops) ≡ until (Some time) ops
until-fixed time ops = cut_before_twice time ops
