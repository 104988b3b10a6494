pub mod Answered
pub mod OptionValues
pub mod Rules
pub mod Tasks
