mod Elements
mod Joined
pub mod LineValues
mod NamedEvents
mod ObjectText
mod OneMore
mod Outlines
pub mod RegionText
mod SameMemory
mod ToldSoFar
