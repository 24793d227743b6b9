pub mod Regions
pub mod Shares
