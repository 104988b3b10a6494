pub mod Known
pub mod Points
pub mod PointFaults
pub mod PointedPort
pub mod PointLaws
