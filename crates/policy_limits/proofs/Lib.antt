pub mod DeskLists
pub mod LineWords
pub mod LinesSaid
pub mod SetupReading
pub mod Setups
