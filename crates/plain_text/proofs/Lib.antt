pub mod Bytes
pub mod Cuts
pub mod Hexes
pub mod Numbers
