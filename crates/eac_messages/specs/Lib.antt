pub mod Body
pub mod Base64
pub mod Message
pub mod Code
pub mod Reply
pub mod Laws
pub mod Steps
