pub mod Carrying
pub mod Cuts
pub mod Growth
pub mod Stored
pub mod Unfolding
