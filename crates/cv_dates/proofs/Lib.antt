pub mod Places
pub mod Months
pub mod DateLaws
pub mod TextLaws
pub mod SortLaws
pub mod Jiff
pub mod WorkedDates
