pub mod Reports
pub mod Stretches
pub mod Work
pub mod Serial
pub mod Team
pub mod Race
