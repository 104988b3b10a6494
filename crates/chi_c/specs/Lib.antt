pub mod Call
pub mod CallNumbers
pub mod Names
