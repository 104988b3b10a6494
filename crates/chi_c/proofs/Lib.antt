pub mod Granules
