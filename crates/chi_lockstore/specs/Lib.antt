pub mod LockFaults
pub mod LockSeats
pub mod Room
