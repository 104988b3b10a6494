pub mod Plan
pub mod Object
pub mod Generated
pub mod Operand
pub mod Weights
pub mod Named
