-- counts of inputs, one after the other
use Rattle.std.proofs.Common.{◌≡◌, ℕ, ◌+◌, ◌<◌, ◌≤◌, List, [], ◌∷◌, ◌++◌, get_or, length, map, min, take, Option, None, Some, IfSome, ap, refl, sym, subst, ◌∙◌, arith}
use Rattle.std.specs.Borrow.{Bor}
use Rattle.std.specs.Option.{option_map}
use Rattle.std.specs.Prelude.{sum_by}
use Rattle.std.proofs.lemmas.List.{map_push, take_more}
use Rattle.std.proofs.lemmas.List.Sums.{sum_by_push}
use Rattle.std.proofs.lemmas.Option.{slice_get-get_or, slice_get-map}
use Rattle.chi_fields.specs.declared.refusal.Refusal.{Refusal}
use Rattle.chi_cover.specs.declared.bin.Bin.{Bin}
use Rattle.chi_cover.specs.Counts.{IsAdded, count_in, count_of, most}
use Rattle.chi_cover.specs.Refusals.{refused_in, refused_times}
use Rattle.chi_watch_text.specs.declared.line_format.LineFormat.{LineFormat}
use Rattle.chi_check.specs.Check.{most_bytes}
use Rattle.chi_check.specs.Cover.{Adds, AddsFile, AreCounted, AreCounts, AreFilesFault, AreHeld, AreOf, AreOfEach, AreOfFiles, Told, IsFileFault, added_after}
use Rattle.chi_check.proofs.AddedLemmas.{added_more}
use Rattle.chi_check.specs.declared.inputs.Counted.{Counted}
use Rattle.chi_check.specs.declared.fault.CheckFault.TheVariants.{File}
use Rattle.chi_check.specs.declared.fault.SourceFault.{SourceFault}

-- nothing was counted
pub record AreNone (counted : Counted) : Type 0 where
  pub covered : (bin : Bin) → count_in counted.covered bin ≡ 0
  pub refused : (reason : Refusal) → refused_in counted.refusals reason ≡ 0
  pub added : counted.added.items ≡ []

-- no input was counted
none_counted : (goals : Bin → Option ℕ) (lines : Option LineFormat) (counted : Counted) → AreNone counted → AreCounted goals lines [] counted
unfolding AreOfEach added_after
none_counted goals lines counted none =
    record { told = []; of = tt; are = λ bin is. none.covered bin ∙ refl; refused = λ reason. none.refused reason ∙ refl; added = none.added }

of_more : (lines : Option LineFormat) (inputs : List (List ℕ)) (told : List Told) (input : List ℕ) (one : Told) → AreOfEach lines inputs told → length input ≤ most_bytes
    → AreOf lines input one.operations one.refusals → AreOfEach lines (inputs ++ input ∷ []) (told ++ one ∷ [])
unfolding AreOfEach
of_more lines [] [] input one of within is = (within, is, tt)
of_more lines [] (t ∷ told) input one of within is = absurd of
of_more lines (i ∷ inputs) [] input one of within is = absurd of
of_more lines (i ∷ inputs) (t ∷ told) input one (short, here, of) within is = (short, here, of_more lines inputs told input one of within is)

-- what one sum and another leave
two_sums : (b c x y top : ℕ) → b ≡ min x top → c ≡ min (b + y) top → c ≡ min (x + y) top
two_sums b c x y top first next = omega arith

-- the counts of one input more
counts_more : (told : List Told) (one : Told) (old new : List ℕ) → AreCounts told old → IsAdded one.operations old new → AreCounts (told ++ one ∷ []) new
counts_more told one old new are added bin here =
    let sum = λ (t : Told). count_of t.operations bin in
    two_sums (count_in old bin) (count_in new bin) (sum_by sum told) (count_of one.operations bin) most (are bin here) (added bin here) ∙ ap (λ n. min n most) (sym (sum_by_push sum told one))

-- one input more
counted_more : (goals : Bin → Option ℕ) (lines : Option LineFormat) (inputs : List (List ℕ)) (input : List ℕ) (old new : Counted) → length input ≤ most_bytes → AreCounted goals lines inputs old
    → Adds goals lines input old new → AreCounted goals lines (inputs ++ input ∷ []) new
counted_more goals lines inputs input old new within counted (ops, refusals, is, adds) =
    let one : Told = record { operations = ops; refusals = refusals } in
    let are : AreCounts (counted.told ++ one ∷ []) new.covered = counts_more counted.told one old.covered new.covered counted.are adds.covered in
    record {
      told = counted.told ++ one ∷ [];
      of = of_more lines inputs counted.told input one counted.of within is;
      are = are;
      refused = λ reason.
          let sum = λ (t : Told). refused_times t.refusals reason in
          two_sums (refused_in old.refusals reason) (refused_in new.refusals reason) (sum_by sum counted.told) (refused_times refusals reason) most (counted.refused reason) (adds.refused reason)
          ∙ ap (λ n. min n most) (sym (sum_by_push sum counted.told one));
      added = added_more goals counted.told one old.covered new.covered old.added.items new.added.items counted.are are counted.added adds.added;
    }

-- where nothing was counted before, it is what the input tells
pub one_counted : (goals : Bin → Option ℕ) (lines : Option LineFormat) (input : List ℕ) (old new : Counted) → AreNone old → length input ≤ most_bytes → Adds goals lines input old new
    → AreCounted goals lines (input ∷ []) new
one_counted goals lines input old new none within adds = counted_more goals lines [] input old new within (none_counted goals lines old none) adds

module _ (holds : List ℕ → List ℕ → Type 0) (goals : Bin → Option ℕ) (lines : Option LineFormat) where
  held_more : (paths inputs : List (List ℕ)) (path input : List ℕ) → AreHeld holds paths inputs → holds path input → AreHeld holds (paths ++ path ∷ []) (inputs ++ input ∷ [])
  unfolding AreHeld
  held_more [] [] path input held is = (is, tt)
  held_more [] (i ∷ inputs) path input held is = absurd held
  held_more (p ∷ paths) [] path input held is = absurd held
  held_more (p ∷ paths) (i ∷ inputs) path input (here, held) is = (here, held_more paths inputs path input held is)

  -- no file was counted
  pub no_file : (counted : Counted) → AreNone counted → AreOfFiles holds goals lines [] counted
  unfolding AreHeld
  no_file counted none = ([], tt, none_counted goals lines counted none)

  -- one file more
  pub file_more : (paths : List (List ℕ)) (path : List ℕ) (old new : Counted) → AreOfFiles holds goals lines paths old → AddsFile holds goals lines path old new
      → AreOfFiles holds goals lines (paths ++ path ∷ []) new
  file_more paths path old new (inputs, held, counted) (input, is, within, adds) =
      (inputs ++ input ∷ [], held_more paths inputs path input held is, counted_more goals lines inputs input old new within counted adds)

  pub next_file : (files : List (Bor (List ℕ))) (n : ℕ) (d : Bor (List ℕ)) (old new : Counted) → n < length files
      → AreOfFiles holds goals lines (map (λ path. path.now) (take n files)) old → AddsFile holds goals lines (get_or files n d).now old new
      → AreOfFiles holds goals lines (map (λ path. path.now) (take (n + 1) files)) new
  next_file files n d old new below are adds =
      let text = λ (path : Bor (List ℕ)). path.now in
      subst (λ (l : List (List ℕ)). AreOfFiles holds goals lines l new) (sym (ap (map text) (take_more files n d below) ∙ map_push text (take n files) (get_or files n d)))
      (file_more (map text (take n files)) (get_or files n d).now old new are adds)

  -- a file was not counted
  pub file_refused : (files : List (Bor (List ℕ))) (n : ℕ) (d : Bor (List ℕ)) (fault : SourceFault) → n < length files → IsFileFault holds lines (get_or files n d).now fault
      → AreFilesFault holds lines (map (λ path. path.now) files) (File n fault)
  file_refused files n d fault below is =
      let text = λ (path : Bor (List ℕ)). path.now in
      ((get_or files n d).now, slice_get-map text files n ∙ ap (option_map text) (slice_get-get_or files n d below), is)

-- the counts are those of the input
pub input_counted : (goals : Bin → Option ℕ) (lines : Option LineFormat) (remaining : Option (List ℕ)) (input : List ℕ) (counts : Counted) → IfSome remaining (λ bytes. input ≡ bytes)
    → AreCounted goals lines (input ∷ []) counts → IfSome remaining (λ bytes. AreCounted goals lines (bytes ∷ []) counts)
input_counted goals lines None input counts same is = tt
input_counted goals lines (Some bytes) input counts same is = subst (λ (l : List ℕ). AreCounted goals lines (l ∷ []) counts) same is
