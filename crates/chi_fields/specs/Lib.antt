pub mod Access
pub mod Extent
pub mod Opcode
pub mod Refusal
pub mod Refusals
