pub mod Block
pub mod Walk
pub mod Laid
pub mod Steps
