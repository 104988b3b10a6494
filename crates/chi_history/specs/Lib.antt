pub mod History
pub mod HistoryLaws
pub mod HomeClauses
pub mod Lines
pub mod NumberLists
pub mod NumberSets
pub mod Openings
