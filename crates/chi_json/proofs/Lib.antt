pub mod FlatLemmas
pub mod FlatReading
pub mod NumberLemmas
pub mod ObjectLemmas
mod ShownTexts
mod UnknownNames
pub mod ValueLemmas
pub mod WalkLemmas
pub mod WordLemmas
