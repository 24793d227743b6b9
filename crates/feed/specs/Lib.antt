pub mod Files
pub mod Times
pub mod Tracks
pub mod Frames
pub mod Counts
