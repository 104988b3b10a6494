pub mod ProgramStatus
pub mod CommandLine
pub mod Generating
pub mod OptionValues
pub mod Task
