pub mod Datum
pub mod Faults
pub mod Flat
pub mod Members
pub mod Object
pub mod Shown
pub mod Unknown
pub mod Values
