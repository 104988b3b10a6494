-- what was written, where nothing was executed, where the options are refused and where the flush fails
use Rattle.std.proofs.Common.{◌≡◌, ℕ, Bool, true, false, if◌then◌else◌, List, [], Option, None, Some, Result, Err, Ok, IfSome, append-nil, refl, ◌∙◌, ◌⊎◌, inl, inr}
use Rattle.std.specs.Io.KnownBytes.{Appends, Keeps}
use Rattle.chi_fields.specs.Extent.{Extent, region_of}
use Rattle.chi_fields.specs.declared.region.RegionFault.{RegionFault}
use Rattle.chi_stimulus.specs.Named.{mix_of}
use Rattle.chi_stimulus.specs.declared.mix.Mix.{Mix as Weights}
use Rattle.chi_stimulus.specs.declared.mix.MixFault.{MixFault}
use Rattle.chi_script.specs.WriterBytes.{AppendsFront}
use Rattle.chi_script.specs.declared.device.WriteFault.{WriteFault}
use Rattle.chi_script.specs.declared.device.WriteFault.TheVariants.{Failed}
use Rattle.chi_engine.specs.declared.fault.EngineFault.{EngineFault}
use Rattle.chi_engine.specs.declared.fault.EngineFault.TheVariants as engine_fault
use Rattle.chi_engine.specs.declared.options.Options.{Options}
use Rattle.chi_engine.specs.JsonWritten.{KeepsUnwritten}
use Rattle.chi_engine.specs.Engine.{KeepsUnexecuted}
use Rattle.chi_engine.specs.Store.{Opens}
use Rattle.chi_home.specs.Task.{Ends, Makes, TaskOutcome}
use Rattle.chi_home.specs.declared.command.Form.TheVariants.{Text, Json}
use Rattle.chi_home.specs.declared.command.Task.{Task}
use Rattle.chi_home.specs.declared.command.Task.TheVariants.{Run, Race, Trace}
use Rattle.chi_home.specs.Generating.{WritesScript, are_in_range, asked_for, on_region, with_mix}
use Rattle.chi_home.specs.declared.generation.GenerateFault.{GenerateFault}
use Rattle.chi_home.specs.declared.generation.GenerateFault.TheVariants.{Number, Region, Mix, Memory, Write}
use Rattle.chi_home.specs.declared.generation.GenerateOptions.{GenerateOptions}

appends_kept : (old mid new : Option (List ℕ)) (text : List ℕ) → Appends old mid text → Keeps mid new → Appends old new text
appends_kept None mid new text appends keeps = tt
appends_kept (Some xs) None new text appends keeps = absurd appends
appends_kept (Some xs) (Some ys) None text appends keeps = absurd keeps
appends_kept (Some xs) (Some ys) (Some zs) text appends keeps = keeps ∙ appends

flushed_front : (old mid new : Option (List ℕ)) (text : List ℕ) → Appends old mid text → Keeps mid new → AppendsFront old new text
flushed_front old mid new text appends keeps = record { front = text; rest = []; whole = append-nil text; taken = appends_kept old mid new text appends keeps }

keeps_same : (old : Option (List ℕ)) → Keeps old old
keeps_same None = tt
keeps_same (Some bytes) = refl

-- no options are refused for a write
no_write : (options : GenerateOptions) (fault : WriteFault) → asked_for options ≡ Err (Write fault) → ⊥
no_write options fault = by_range (are_in_range options) (region_of options.base options.granules)
  where
    by_mix : (region : Extent) (mix : Result Weights MixFault) → with_mix options region mix ≡ Err (Write fault) → ⊥
    by_mix region (Ok mix) is = cc
    by_mix region (Err f) is = cc

    by_region : (r : Result Extent RegionFault) → on_region options r ≡ Err (Write fault) → ⊥
    by_region (Ok region) is = by_mix region (mix_of options.mix.now) is
    by_region (Err f) is = cc

    by_range : (b : Bool) (r : Result Extent RegionFault) → (if b then on_region options r else Err Number) ≡ Err (Write fault) → ⊥
    by_range true r is = by_region r is
    by_range false r is = cc

-- nothing is written where the options are refused
pub refused_keeps : (options : GenerateOptions) (old : Option (List ℕ)) (fault : GenerateFault) → asked_for options ≡ Err fault → WritesScript options old old (Err fault)
refused_keeps options old Number refused = (refused, keeps_same old)
refused_keeps options old (Region fault) refused = (refused, keeps_same old)
refused_keeps options old (Mix fault) refused = (refused, keeps_same old)
refused_keeps options old Memory refused = keeps_same old
refused_keeps options old (Write fault) refused = absurd (no_write options fault refused)

-- where nothing is written but a text that was made, nothing is where no script was executed
pub unexecuted : (old new : Option (List ℕ)) (result : Result (Unit {0}) EngineFault) → KeepsUnwritten old new result → KeepsUnexecuted old new result
unexecuted old new (Ok done) keeps = tt
unexecuted old new (Err engine_fault.Read) keeps = keeps
unexecuted old new (Err engine_fault.TooLong) keeps = keeps
unexecuted old new (Err engine_fault.Memory) keeps = keeps
unexecuted old new (Err (engine_fault.Script fault)) keeps = keeps
unexecuted old new (Err (engine_fault.Open fault)) keeps = keeps
unexecuted old new (Err (engine_fault.Work fault)) keeps = tt
unexecuted old new (Err (engine_fault.Write fault)) keeps = tt

-- a task that was done has written its whole text, whether that can be flushed or not
flushed : (task : Task) (options : Options) (input : List ℕ) (old mid new : Option (List ℕ)) (done : Unit {0}) → Keeps mid new
    → TaskOutcome task options input old mid (Ok done) → TaskOutcome task options input old new (Ok done)
flushed (Run Text) options input old mid new done keeps outcome =
    let made = outcome.1.2.1 in
    (outcome.0, (outcome.1.0, outcome.1.1, (outcome.1.2.0, appends_kept old mid new _ made keeps)))
flushed (Run Json) options input old mid new done keeps outcome =
    let made = outcome.1.2.1 in
    (outcome.0, (outcome.1.0, outcome.1.1, (outcome.1.2.0, (made.0, made.1, appends_kept old mid new _ made.2 keeps))))
flushed (Race Json) options input old mid new done keeps outcome =
    let made = outcome.1.2.1 in
    (outcome.0, (outcome.1.0, outcome.1.1, (outcome.1.2.0, (made.0, made.1, made.2, (made.3.0, made.3.1, appends_kept old mid new _ made.3.2 keeps)))))
flushed (Race Text) options input old mid new done keeps outcome =
    let made = outcome.1.2.1 in
    (outcome.0, (outcome.1.0, outcome.1.1, (outcome.1.2.0, (made.0, made.1, made.2, appends_kept old mid new _ made.3 keeps))))
flushed Trace options input old mid new done keeps outcome =
    let made = outcome.1.2.1 in
    (outcome.0, (outcome.1.0, outcome.1.1, (outcome.1.2.0, (made.0, made.1, appends_kept old mid new _ made.2 keeps))))

flush_failed : (task : Task) (options : Options) (input : List ℕ) (old mid new : Option (List ℕ)) (done : Unit {0}) (fault : WriteFault) → Keeps mid new
    → TaskOutcome task options input old mid (Ok done) → TaskOutcome task options input old new (Err (engine_fault.Write fault))
flush_failed (Run Text) options input old mid new done fault keeps outcome =
    let made = outcome.1.2.1 in
    (outcome.0, (outcome.1.0, outcome.1.1, (outcome.1.2.0, flushed_front old mid new _ made keeps)))
flush_failed (Run Json) options input old mid new done fault keeps outcome =
    let made = outcome.1.2.1 in
    (outcome.0, (outcome.1.0, outcome.1.1, (outcome.1.2.0, (made.0, made.1, flushed_front old mid new _ made.2 keeps))))
flush_failed (Race Json) options input old mid new done fault keeps outcome =
    let made = outcome.1.2.1 in
    (outcome.0, (outcome.1.0, outcome.1.1, (outcome.1.2.0, (made.0, made.1, made.2, (made.3.0, made.3.1, flushed_front old mid new _ made.3.2 keeps)))))
flush_failed (Race Text) options input old mid new done fault keeps outcome =
    let made = outcome.1.2.1 in
    (outcome.0, (outcome.1.0, outcome.1.1, (outcome.1.2.0, (made.0, made.1, made.2, flushed_front old mid new _ made.3 keeps))))
flush_failed Trace options input old mid new done fault keeps outcome =
    let made = outcome.1.2.1 in
    (outcome.0, (outcome.1.0, outcome.1.1, (outcome.1.2.0, (made.0, made.1, flushed_front old mid new _ made.2 keeps))))

some_kept : {A B : List ℕ → Type 0} (remaining : Option (List ℕ)) → ((input : List ℕ) → A input → B input) → IfSome remaining A → IfSome remaining B
some_kept None keeps outcome = tt
some_kept (Some input) keeps outcome = keeps input outcome

-- a task that was done came to an outcome of this status
pub ended : (task : Task) (options : Options) (remaining old mid new : Option (List ℕ)) (done : Unit {0}) (status : ℕ) → Opens options.store → Keeps mid new
    → IfSome remaining (λ input. TaskOutcome task options input old mid (Ok done)) → (status ≡ 0) ⊎ (status ≡ 5) → Ends task options remaining old new status
ended task options remaining old mid new done status opens keeps outcome (inl is) =
    (Ok done, opens, tt, some_kept remaining (λ input. flushed task options input old mid new done keeps) outcome, is)
ended task options remaining old mid new done status opens keeps outcome (inr is) =
    (Err (engine_fault.Write Failed), opens, tt, some_kept remaining (λ input. flush_failed task options input old mid new done Failed keeps) outcome, is)

-- a script that was made is written whole, whether it can be flushed or not
pub made : (options : GenerateOptions) (old mid new : Option (List ℕ)) (done : Unit {0}) (status : ℕ) → Keeps mid new
    → WritesScript options old mid (Ok done) → (status ≡ 0) ⊎ (status ≡ 5) → Makes options old new status
made options old mid new done status keeps (text, job, appends) (inl is) = (Ok done, (text, job, appends_kept old mid new text appends keeps), is)
made options old mid new done status keeps (text, job, appends) (inr is) =
    (Err (Write Failed), (text, job, flushed_front old mid new text appends keeps), is)
