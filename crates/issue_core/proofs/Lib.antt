pub mod RegisterDesk
pub mod IssuingDesk
