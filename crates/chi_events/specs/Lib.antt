pub mod RequestEvents
pub mod Operations
pub mod Outstanding
pub mod Granules
pub mod Requests
pub mod EventEffects
pub mod EventLaws
pub mod Ended
