pub mod Reading
pub mod Pushed
pub mod Naming
