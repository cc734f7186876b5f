pub mod Object
pub mod Laws
