pub mod MaskSoFar
pub mod NumberSoFar
