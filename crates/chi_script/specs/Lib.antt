pub mod Faults
pub mod ImageLaws
pub mod Member
pub mod RunText
pub mod Script
pub mod Transcript
pub mod WriterBytes
