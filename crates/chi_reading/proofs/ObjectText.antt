-- what an object says, of the memory and of the requests that were read of it
use Rattle.std.proofs.Common.{◌≡◌, [], ◌∷◌, None, Ok, refl}
use Rattle.serde_json.specs.Data.{Data, Items, Members}
use Rattle.serde_json.specs.Find.{as_array}
use Rattle.chi_json.specs.Members.{member_by}
use Rattle.chi_json.specs.Unknown.{unknown_in}
use Rattle.chi_reading.specs.declared.member.Member.TheVariants as member
use Rattle.chi_reading.specs.Member.{member_name, trace_members}
use Rattle.chi_reading.specs.Requests.{Completed, all_completed}
use Rattle.chi_reading.specs.TraceText.{MemoryText, memory_text, object_text}

pub object_says : (d : Data) (ms : Members) (elements : Items) (t : MemoryText) (c : Completed) → memory_text d ≡ Ok t → member_by member_name member.Requests as_array d ≡ Ok elements
    → unknown_in member_name (trace_members ∷ []) ms ≡ None → all_completed t.region elements ≡ Ok c → object_text d ms ≡ Ok (record { memory = t; completed = c })
unfolding object_text
object_says d ms elements t c is_memory are_listed are_known are_completed = rw (is_memory, are_listed, are_known, are_completed) refl
