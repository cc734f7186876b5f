pub mod NeedLaws
pub mod NeedLine
pub mod NeedText
pub mod Plans
pub mod Renewals
pub mod Searching
