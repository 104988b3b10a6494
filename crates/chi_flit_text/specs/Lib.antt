pub mod Digits
pub mod Faults
pub mod FlitText
pub mod Lanes
pub mod LookedAt
pub mod Member
pub mod PointText
pub mod Stated
