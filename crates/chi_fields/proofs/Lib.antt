pub mod EnableBits
