pub mod Desks
pub mod Setup
pub mod SetupLine
pub mod SetupText
pub mod Validity
