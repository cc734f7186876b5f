pub mod TextItems
pub mod Bodies
pub mod Floats
pub mod ReadAgain
pub mod WrittenBodies
pub mod WrittenAgain
pub mod FoundMembers
