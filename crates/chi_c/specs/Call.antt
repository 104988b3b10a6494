-- what a call from C asks for, what is decided of it, and what C reads of the answer
use Rattle.std.specs.Prelude.{◌≡◌, ℕ, ◌+◌, ◌*◌, ◌<◌, ◌==◌, not, List, length, replicate, slice_index, Result, Ok, Err, IsTrue}
use Rattle.chi_fields.specs.declared.refusal.Refusal.{Refusal}
use Rattle.chi_fields.specs.declared.region.RegionFault.{RegionFault}
use Rattle.chi_fields.specs.declared.request.Request.{Request}
use Rattle.chi_fields.specs.Extent.{Extent, IsRegion, lies_in, region_of}
use Rattle.chi_fields.specs.Access.{IsLawful, Access}
use Rattle.chi_fields.specs.Refusal.{decision}
use Rattle.chi_lanes.specs.declared.reply.Reply.{Reply}
use Rattle.chi_lanes.specs.declared.reply.Reply.TheVariants.{Comp, CompData}
use Rattle.chi_lanes.specs.Memory.{Memory, word_at}
use Rattle.chi_c.specs.CallNumbers.{fault_number, refusal_number}

-- the request of a call: big-endian where the number is not 0, and of requester 0, since nothing is told apart by that
abbrev pub call_request : ℕ → ℕ → ℕ → ℕ → ℕ → List ℕ → Request
call_request opcode size addr endian be lanes = record {
  src = 0;
  txn = 0;
  opcode = opcode;
  size = size;
  addr = addr;
  endian = not (endian == 0);
  be = be;
  lanes = lanes;
}

-- the request of a call that only decodes: with data all 0, since what is decided of a request does not rest on its data
unfoldable pub bare_request : ℕ → ℕ → ℕ → ℕ → Request
bare_request opcode size addr be = call_request opcode size addr 0 be (replicate 16 0)

-- the region, or the number of its fault
abbrev pub numbered_region : Result Extent RegionFault → Result Extent ℕ
numbered_region (Ok region) = Ok region
numbered_region (Err fault) = Err (fault_number fault)

-- the access, or the number of the refusal
abbrev pub numbered_decision : Result Access Refusal → Result Access ℕ
numbered_decision (Ok o) = Ok o
numbered_decision (Err refusal) = Err (refusal_number refusal)

-- what is decided of a request where the region was opened
abbrev pub decided_in : Result Extent ℕ → Request → Result Access ℕ
decided_in (Ok region) q = numbered_decision (decision q region)
decided_in (Err number) q = Err number

-- what is decided of a call: the access, or the number of the region's fault, or of the first refusal
abbrev pub decided : ℕ → ℕ → Request → Result Access ℕ
decided base granules q = decided_in (numbered_region (region_of base granules)) q

-- the number that a call answers: 0 where it is done
abbrev pub result_number : Result Access ℕ → ℕ
result_number (Ok o) = 0
result_number (Err number) = number

-- the region of a call that is not refused
abbrev pub region : ℕ → ℕ → Extent
region base granules = record { base = base; granules = granules }

-- what is known of an access that was accepted in a region
pub record IsAccepted (region : Extent) (o : Access) : Type 0 where
  pub is : IsRegion region
  pub fits : IsTrue (lies_in o.addr o.len region)
  pub lawful : IsLawful o

-- these are a memory's words of granules that follow one another from an address on
unfoldable pub AreWords : Memory → ℕ → List ℕ → Type 0
AreWords m base words = (g : ℕ) → g < length words → slice_index words g ≡ word_at m (base + 8 * g)

-- the 16 lanes of an answer, all 0 where it has no data
abbrev pub lanes_of_reply : Reply → List ℕ
lanes_of_reply Comp = replicate 16 0
lanes_of_reply (CompData lanes) = lanes

-- 1 where an answer has data, else 0
abbrev pub data_flag : Reply → ℕ
data_flag Comp = 0
data_flag (CompData lanes) = 1
