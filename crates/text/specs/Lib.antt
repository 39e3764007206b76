pub mod Pieces
pub mod Putting
