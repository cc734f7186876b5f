-- The plain register.
pub mod Ledger
pub mod Serves
pub mod Causes
pub mod RowLaws
