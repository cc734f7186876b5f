pub mod Instruments
pub mod Key
pub mod Provider
