pub mod Executed
pub mod RunLaws
