pub mod Counting
pub mod Digits
mod Examples
pub mod Joined
pub mod Padded
pub mod Sizes
