pub mod Book
pub mod LostTries
