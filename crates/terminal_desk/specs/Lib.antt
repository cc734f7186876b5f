pub mod Chain
pub mod Search
pub mod Walks
pub mod Laws
pub mod Answering
