pub mod LineCounts
pub mod NeedLimits
pub mod NeedReading
pub mod NeedTexts
pub mod OnePlans
pub mod Sweeping
