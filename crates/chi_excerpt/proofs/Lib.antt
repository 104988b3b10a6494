mod Enabled
pub mod Failures
mod WriterLemmas
mod WrongByteLemmas
