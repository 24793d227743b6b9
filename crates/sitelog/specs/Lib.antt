pub mod Mounting
pub mod Sites
pub mod Splits
pub mod Lines
pub mod Stops
