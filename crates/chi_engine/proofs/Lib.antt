pub mod WritingLemmas
pub mod RunLemmas
pub mod RaceLemmas
pub mod TraceLemmas
pub mod JsonLemmas
