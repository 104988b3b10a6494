pub mod Joined
mod Words
