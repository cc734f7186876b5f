pub mod EqualBytes
pub mod Pieces
pub mod Rows
pub mod RunLaws
pub mod Steps
pub mod Tellings
