pub mod Objects
pub mod ReadFront
pub mod More
pub mod Rows
