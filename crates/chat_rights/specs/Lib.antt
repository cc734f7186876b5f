pub mod Kinds
pub mod Rights
pub mod Template
pub mod Laws
