pub mod TableSteps
pub mod BookSeats
pub mod BookFaults
