pub mod Events
pub mod Rule
pub mod Seats
pub mod StepFacts
pub mod Views
