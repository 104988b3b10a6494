mod Numbers
pub mod Shown
pub mod Undecided
