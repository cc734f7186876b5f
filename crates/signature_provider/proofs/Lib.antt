pub mod NumberedKeys
pub mod Tables
