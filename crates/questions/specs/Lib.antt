pub mod Table
pub mod Kept
pub mod Calls
pub mod Last
pub mod Once
