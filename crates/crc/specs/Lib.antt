pub mod Polynomial
pub mod Check
pub mod Steps
