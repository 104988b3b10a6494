-- what a home decides of a request of a trace
use Rattle.std.specs.Prelude.{◌≡◌, ℕ, ◌*◌, ◌/◌, ◌^◌, ◌<◌, List, length, slice_index, Option, None, Some, Result, Err}
use Rattle.std.specs.Result.{result_ok}
use Rattle.chi_fields.specs.Access.{Access}
use Rattle.chi_fields.specs.Extent.{Extent, region_of}
use Rattle.chi_fields.specs.Refusal.{decision}
use Rattle.chi_fields.specs.declared.refusal.Refusal.{Refusal}
use Rattle.chi_fields.specs.declared.refusal.Refusal.TheVariants.{OutOfRegion}
use Rattle.chi_fields.specs.declared.request.Request.{Request}
use Rattle.chi_lanes.specs.declared.reply.Reply.{Reply}
use Rattle.chi_trace.specs.declared.request_fields.RequestFields.{RequestFields}
use Rattle.chi_trace.specs.declared.operation.Operation.{Operation}

-- the request as a home decides it, which does not look at requester and transaction
abbrev pub request_of : RequestFields → Request
request_of a = record { src = 0; txn = 0; opcode = a.opcode; size = a.size; addr = a.addr; endian = a.endian; be = a.be; lanes = a.lanes }

-- what a home decides of a request on a line, where there is one
abbrev decision_on : Option Extent → RequestFields → Result Access Refusal
decision_on None a = Err OutOfRegion
decision_on (Some line) a = decision (request_of a) line

-- the line of 64 bytes around an address, where it lies below 2^52
abbrev pub line_of : ℕ → Option Extent
line_of addr = result_ok (region_of (addr / 64 * 64) 8)

-- what a home of this region, or of all addresses, decides of a request
abbrev pub access_of : Option Extent → RequestFields → Result Access Refusal
access_of (Some region) a = decision (request_of a) region
access_of None a = decision_on (line_of a.addr) a

-- the operation of a request that has this access, its times, and its reply, where that was seen
abbrev pub as_operation : RequestFields → Access → ℕ → ℕ → Option Reply → Operation
as_operation a access start end reply =
    record { number = a.number; src = a.src; txn = a.txn; access = access; start = start; end = end; reply = reply }

-- sixteen byte enables and sixteen bytes
pub record IsPacket (be : ℕ) (lanes : List ℕ) : Type 0 where
  pub bits : be < 2 ^ 16
  pub whole : length lanes ≡ 16
  pub bytes : (i : ℕ) → slice_index lanes i < 256
