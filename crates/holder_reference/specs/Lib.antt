pub mod Laws
pub mod Reference
pub mod Refused
pub mod Sequence
