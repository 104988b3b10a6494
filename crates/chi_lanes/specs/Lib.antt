pub mod After
pub mod ByteLaws
pub mod Bytes
pub mod Combination
pub mod Memory
pub mod Packet
