pub mod Foldings
pub mod Folds
pub mod Meaning
pub mod Pieces
pub mod Stores
pub mod Strips
