pub mod CheckLemmas
pub mod CommandLemmas
pub mod OptionValuesLemmas
mod AddedLemmas
mod CountedLemmas
mod CoverLemmas
mod SavingLemmas
mod SearchLemmas
mod ShowingLemmas
mod WatchLemmas
