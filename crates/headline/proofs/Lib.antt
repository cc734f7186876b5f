pub mod Places
pub mod Words
pub mod Empty
pub mod Passports
pub mod Headlines
pub mod Quoted
