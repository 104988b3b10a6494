-- what a text says of a memory, member by member
use Rattle.std.proofs.Common.{◌≡◌, ℕ, ◌-◌, ◌/◌, ◌^◌, List, Option, None, Some, Ok, refl}
use Rattle.serde_json.specs.Data.{Data}
use Rattle.chi_fields.specs.Extent.{Extent, region_of}
use Rattle.chi_json.specs.Members.{number_of, opening_words, stated_words}
use Rattle.chi_trace.specs.declared.words.GranuleWord.{GranuleWord}
use Rattle.chi_reading.specs.declared.member.Member.TheVariants as member
use Rattle.chi_reading.specs.Member.{member_name}
use Rattle.chi_reading.specs.Told.{region_words, stated_list}
use Rattle.chi_reading.specs.TraceText.{region_final_words, region_memory, wide_memory}

pub region_text : (d : Data) (base granules : ℕ) (region : Extent) (image : List ℕ) (final_words : Option (List ℕ)) → number_of member_name member.Base (2 ^ 64 - 1) d ≡ Ok base
    → number_of member_name member.Granules 65535 d ≡ Ok granules → region_of base granules ≡ Ok region → opening_words member_name member.Image granules d ≡ Ok image
    → stated_words member_name member.Final granules d ≡ Ok final_words
    → region_memory d ≡ Ok (record { region = Some region; opening = region_words (base / 8) image; final_words = region_final_words (base / 8) final_words })
unfolding region_memory
region_text d base granules region image final_words is_base is_granules is_region is_image is_finals = rw (is_base, is_granules, is_region, is_image, is_finals) refl

pub wide_text : (d : Data) (opening final_words : List GranuleWord) → stated_list member.Image d ≡ Ok opening → stated_list member.Final d ≡ Ok final_words
    → wide_memory d ≡ Ok (record { region = None; opening = opening; final_words = final_words })
unfolding wide_memory
wide_text d opening final_words is_image is_finals = rw (is_image, is_finals) refl
