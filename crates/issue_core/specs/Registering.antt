-- The plain register.
pub mod Desk
pub mod Steps
