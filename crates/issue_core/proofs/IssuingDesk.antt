-- An issuing desk.
pub mod Sizes
pub mod Messages
pub mod Makings
pub mod Served
pub mod Storable
pub mod ServedTold
pub mod RulesSeen
pub mod LookedBy
pub mod IssuedLists
pub mod ListsOwe
pub mod Stories
pub mod Caused
pub mod Still
pub mod Answering
pub mod Owing
pub mod Serving
