-- An issuing desk.
pub mod Readings
pub mod Rules
pub mod Due
pub mod Desk
pub mod Rows
pub mod Looks
pub mod SeenRules
pub mod Causes
pub mod Calls
pub mod AnswerCauses
pub mod Signed
pub mod ProviderCalls
pub mod Steps
pub mod Serving
pub mod Laws
