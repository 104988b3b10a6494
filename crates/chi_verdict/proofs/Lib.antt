mod Added
mod Ahead
mod Apart
mod Blamed
mod Counting
mod Filling
pub mod FirstPlaces
mod Gained
mod HeldAlone
mod OneGranule
mod Parts
mod Replied
pub mod Spent
mod Ties
mod Told
mod Walked
mod WalkedOn
mod Whole
mod Woven
