pub mod LinePlaces
mod Operations
pub mod Places
mod Spent
