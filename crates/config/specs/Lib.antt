pub mod Rows
pub mod Setup
pub mod Text
pub mod Layout
pub mod Verdict
pub mod Reading
pub mod Walk
pub mod Told
