pub mod Codes
pub mod Lists
pub mod Replies
pub mod Serving
pub mod Laws
