pub mod Answers
pub mod Granules
pub mod Listed
pub mod Objects
pub mod Operations
pub mod Pages
pub mod Reaches
