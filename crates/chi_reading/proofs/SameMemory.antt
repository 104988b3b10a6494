-- objects that have the same members but their requests say the same of the memory
use Rattle.std.proofs.Common.{◌≡◌, ◌≢◌, ℕ, ◌-◌, ◌^◌, Bool, true, false, if◌then◌else◌, bytes_eq, true≢false, is_some, Result, Ok, Err, refl, sym, ap, ◌∙◌}
use Rattle.std.specs.Option.{ok_or, option_map, option_transpose, unwrap_or}
use Rattle.std.proofs.lemmas.Slice.Eq.{bytes_eq-Decides}
use Rattle.std.specs.Prelude.{replicate}
use Rattle.serde_json.specs.Data.{Data}
use Rattle.serde_json.specs.Find.{get}
use Rattle.chi_json.specs.Members.{◌>>=◌, number_of, opening_words, stated_words}
use Rattle.chi_json.specs.Values.{image_of, whole_number}
use Rattle.chi_json.specs.declared.member.MemberFault.TheVariants.{BadMember, Missing}
use Rattle.chi_json.proofs.WalkLemmas.{no_fault}
use Rattle.chi_reading.specs.declared.fault.TraceFault.TheVariants.{RegionRefused}
use Rattle.chi_reading.specs.declared.member.Member.{Member}
use Rattle.chi_reading.specs.declared.member.Member.TheVariants as member
use Rattle.chi_reading.specs.Member.{member_name}
use Rattle.chi_reading.specs.Told.{list_by, stated_list}
use Rattle.chi_reading.specs.TraceText.{MemoryText, memory_text, region_memory, wide_memory}
use Rattle.chi_reading.proofs.RegionText.{region_text, wide_text}

-- a step that meets no fault, and the next one
step : {A B E : Type 0} (r : Result A E) (f : A → Result B E) (b : B) → (r >>= f) ≡ Ok b → (a : A) × (r ≡ Ok a) × (f a ≡ Ok b)
step (Ok a) f b is = (a, refl, is)
step (Err e) f b is = absurd (cc)

module _ (d e : Data) (same : (m : Member) → member_name m ≢ member_name member.Requests → get (member_name m) e ≡ get (member_name m) d) where
  number_same : (m : Member) (top : ℕ) → member_name m ≢ member_name member.Requests → number_of member_name m top e ≡ number_of member_name m top d
  unfolding number_of
  number_same m top apart = ap (λ v. ok_or v (Missing m) >>= (λ value. ok_or (whole_number top value) (BadMember m))) (same m apart)

  words_same : (m : Member) (granules : ℕ) → member_name m ≢ member_name member.Requests → stated_words member_name m granules e ≡ stated_words member_name m granules d
  unfolding stated_words
  words_same m granules apart = ap (λ v. option_transpose (option_map (λ value. ok_or (image_of granules value) (BadMember m)) v)) (same m apart)

  opening_same : (m : Member) (granules : ℕ) → member_name m ≢ member_name member.Requests → opening_words member_name m granules e ≡ opening_words member_name m granules d
  unfolding opening_words
  opening_same m granules apart = ap (λ r. r >>= (λ stated. Ok (unwrap_or stated (replicate granules 0)))) (words_same m granules apart)

  list_same : (m : Member) → member_name m ≢ member_name member.Requests → stated_list m e ≡ stated_list m d
  unfolding stated_list
  list_same m apart = ap (list_by m) (same m apart)

  -- whether two names are one is computed
  apart_by : (m : Member) → bytes_eq (member_name m) (member_name member.Requests) ≡ false → member_name m ≢ member_name member.Requests
  apart_by m other is = true≢false (sym ((bytes_eq-Decides (member_name m) (member_name member.Requests)).1 is) ∙ other)

  region_same : (t : MemoryText) → region_memory d ≡ Ok t → region_memory e ≡ Ok t
  unfolding region_memory
  region_same t says =
      let base = step _ _ t says in
      let granules = step _ _ t base.2 in
      let region = step _ _ t granules.2 in
      let image = step _ _ t region.2 in
      let finals = step _ _ t image.2 in
      region_text e base.0 granules.0 region.0 image.0 finals.0
      (number_same member.Base (2 ^ 64 - 1) (apart_by member.Base refl) ∙ no_fault _ _ _ (sym base.1))
      (number_same member.Granules 65535 (apart_by member.Granules refl) ∙ no_fault _ _ _ (sym granules.1))
      (no_fault RegionRefused _ _ (sym region.1))
      (opening_same member.Image granules.0 (apart_by member.Image refl) ∙ no_fault _ _ _ (sym image.1))
      (words_same member.Final granules.0 (apart_by member.Final refl) ∙ no_fault _ _ _ (sym finals.1))
      ∙ finals.2

  wide_same : (t : MemoryText) → wide_memory d ≡ Ok t → wide_memory e ≡ Ok t
  unfolding wide_memory
  wide_same t says =
      let opening = step _ _ t says in
      let finals = step _ _ t opening.2 in
      wide_text e opening.0 finals.0
      (list_same member.Image (apart_by member.Image refl) ∙ no_fault _ _ _ (sym opening.1))
      (list_same member.Final (apart_by member.Final refl) ∙ no_fault _ _ _ (sym finals.1))
      ∙ finals.2

  by_region : (t : MemoryText) (is : Bool) → (if is then region_memory d else wide_memory d) ≡ Ok t → (if is then region_memory e else wide_memory e) ≡ Ok t
  by_region t true says = region_same t says
  by_region t false says = wide_same t says

  pub memory_same : (t : MemoryText) → memory_text d ≡ Ok t → memory_text e ≡ Ok t
  memory_same t says =
      ap (λ v. if is_some v then region_memory e else wide_memory e) (same member.Granules (apart_by member.Granules refl))
      ∙ by_region t (is_some (get (member_name member.Granules) d)) says
