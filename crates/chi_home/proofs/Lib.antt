pub mod CommandLemmas
pub mod OptionValuesLemmas
pub mod TaskLemmas
pub mod Written
