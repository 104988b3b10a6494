-- the task `generate`: what its options ask for, and what it writes
use Rattle.std.specs.Prelude.{◌≡◌, ℕ, ◌&&◌, nat_le, Bool, if◌then◌else◌, List, Option, unwrap_or, Result, Ok, Err, codes}
use Rattle.std.specs.Io.KnownBytes.{Appends, Keeps}
use Rattle.clap.specs.Walk.{Row, first_of, one_of}
use Rattle.chi_fields.specs.Extent.{Extent, region_of}
use Rattle.chi_fields.specs.declared.region.RegionFault.{RegionFault}
use Rattle.chi_program.specs.OptionValues.{IsNumberOr, has_word}
use Rattle.chi_script.specs.Script.{ScriptValue, script}
use Rattle.chi_script.specs.WriterBytes.{AppendsFront}
use Rattle.chi_stimulus.specs.Generated.{IsGenerated}
use Rattle.chi_stimulus.specs.Named.{mix_of}
use Rattle.chi_stimulus.specs.declared.mix.Mix.{Mix as Weights}
use Rattle.chi_stimulus.specs.declared.mix.MixFault.{MixFault}
use Rattle.chi_stimulus.specs.declared.stimulus.Stimulus.{Stimulus}
use Rattle.chi_home.specs.CommandLine.{default_mix}
use Rattle.chi_home.specs.declared.generation.GenerateOptions.{GenerateOptions}
use Rattle.chi_home.specs.declared.generation.GenerateFault.{GenerateFault}
use Rattle.chi_home.specs.declared.generation.GenerateFault.TheVariants.{Number, Region, Mix, Memory, Write}

-- the options are those that were found
pub record HasGenerateOptions (found : List Row) (options : GenerateOptions) : Type 0 where
  pub requests : IsNumberOr 1000 (one_of (codes "requests") found) options.requests
  pub seed : IsNumberOr 1 (one_of (codes "seed") found) options.seed
  pub base : IsNumberOr 4096 (one_of (codes "base") found) options.base
  pub granules : IsNumberOr 8 (one_of (codes "granules") found) options.granules
  pub image : options.image ≡ has_word found (codes "image") (codes "true")
  pub requesters : IsNumberOr 4 (one_of (codes "requesters") found) options.requesters
  pub refused : IsNumberOr 0 (one_of (codes "refused") found) options.refused
  pub hot : IsNumberOr 0 (one_of (codes "hot") found) options.hot
  pub mix : options.mix.now ≡ unwrap_or (first_of (codes "mix") found) default_mix

-- each number is one that its option takes: 4,096 requests, a region's granules as a script has them, 1 to 8 requesters, and percentages
abbrev pub are_in_range : GenerateOptions → Bool
are_in_range options =
    nat_le options.requests 4096 && (nat_le options.granules 65535 && (nat_le 1 options.requesters && (nat_le options.requesters 8
    && (nat_le options.refused 100 && nat_le options.hot 100))))

-- the script that the options ask for on a region, or that their weights are not read
abbrev pub with_mix : GenerateOptions → Extent → Result Weights MixFault → Result Stimulus GenerateFault
with_mix options region (Ok mix) = Ok (record {
  requests = options.requests;
  seed = options.seed;
  region = region;
  image = options.image;
  requesters = options.requesters;
  refused = options.refused;
  hot = options.hot;
  mix = mix;
})
with_mix options region (Err fault) = Err (Mix fault)

abbrev pub on_region : GenerateOptions → Result Extent RegionFault → Result Stimulus GenerateFault
on_region options (Ok region) = with_mix options region (mix_of options.mix.now)
on_region options (Err fault) = Err (Region fault)

-- the script that the options ask for, or why they are refused: first for a number, then for the region, then for the weights
abbrev pub asked_for : GenerateOptions → Result Stimulus GenerateFault
asked_for options = if are_in_range options then on_region options (region_of options.base options.granules) else Err Number

-- what was written is the text of a script that the options ask for
pub record IsAskedFor (options : GenerateOptions) (text : List ℕ) : Type 0 where
  pub stimulus : Stimulus
  pub value : ScriptValue
  pub asked : asked_for options ≡ Ok stimulus
  pub read : script text 7 ≡ Ok value
  pub generated : IsGenerated stimulus value

-- After Ok the text of a script was written, after a fault of the writer a beginning of one, and after another nothing. The options
-- are refused just for what they ask.
abbrev pub WritesScript : GenerateOptions → Option (List ℕ) → Option (List ℕ) → Result (Unit {0}) GenerateFault → Type 0
WritesScript options old new (Ok done) = (text : List ℕ) × IsAskedFor options text × Appends old new text
WritesScript options old new (Err (Write fault)) = (text : List ℕ) × IsAskedFor options text × AppendsFront old new text
WritesScript options old new (Err Memory) = Keeps old new
WritesScript options old new (Err fault) = (asked_for options ≡ Err fault) × Keeps old new

-- the status of a fault: 2 where the options are refused, 4 out of memory, 5 where the script was not written
abbrev pub generate_status : GenerateFault → ℕ
generate_status Memory = 4
generate_status (Write fault) = 5
generate_status fault = 2
