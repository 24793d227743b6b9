pub mod Moments
pub mod Rounds
