pub mod CallerLemmas
pub mod HeldLemmas
pub mod HistoryLemmas
pub mod NumbersLemmas
pub mod WordLemmas
