pub mod Listing
pub mod Text
pub mod Step
pub mod Chunks
pub mod Parts
