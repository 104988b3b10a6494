pub mod Member
pub mod Rules
