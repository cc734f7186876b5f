pub mod Bits
pub mod Templates
pub mod Rows
