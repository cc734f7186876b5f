pub mod Rows
pub mod Headings
pub mod Index
pub mod Keeping
pub mod Steps
pub mod Planned
pub mod Fading
