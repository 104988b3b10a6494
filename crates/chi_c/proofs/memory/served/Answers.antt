use Rattle.std.proofs.Common.{◌≡◌, Ok, length, sym, ap, ◌∙◌, ◌<◌, arith}
use Rattle.chi_fields.specs.Extent.{Extent, granule_of, region_of}
use Rattle.chi_lanes.specs.After.{after}
use Rattle.chi_lanes.specs.Memory.{word}
use Rattle.chi_c.specs.Call.{IsAccepted, decided, decided_in, numbered_region, region}
use Rattle.chi_c.proofs.Granules.{AreWords-after, word-AreWords}
use Rattle.chi_c.proofs.memory.served.Goals as goal

pub returns-clause-served : goal.returns-clause-served
returns-clause-served c =
    let o = c.in_ok-asked.asked.access in
    let base = c.args.base in
    let words = c.args.words.now in
    let g = c.from-granule.result in
    let e : Extent = region base c.granules_of.result in
    let accepted : IsAccepted e o = c.in_ok-asked.ensures.accepted in
    let opened : region_of base c.granules_of.result ≡ region_of base (length words) = c.granules_of.ensures.refused base in
    let is_decided : decided base (length words) c.args.request.now ≡ Ok o =
    ap (λ r. decided_in (numbered_region r) c.args.request.now) (sym opened) ∙ c.in_ok-asked.ensures.access in
    let placed : g ≡ granule_of o.addr e = c.from-granule.ensures ∙ c.in_ok-asked.ensures.granule in
    let inside : g < length words = omega (arith, c.in_ok-asked.ensures.within, c.granules_of.ensures.within, c.from-granule.ensures) in
    rw is_decided
    (λ m memory are.
    let at = word-AreWords m base words g are inside ∙ ap (word m e) placed in
    let made = c.apply-after.ensures.changed e m accepted.is memory accepted.fits at ∙ ap (word (after o m) e) (sym placed) in (
      AreWords-after e o m words g c.apply-after.result.0 accepted are placed made,
      c.apply-after.ensures.answered e m accepted.is memory accepted.fits at,
    ))
