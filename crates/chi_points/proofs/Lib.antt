mod KindsLeft
mod OnePoint
mod Steps
pub mod Waiting
