pub mod Ledger
pub mod Story
pub mod Struck
pub mod Laws
