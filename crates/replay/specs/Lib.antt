pub mod Events
pub mod Log
pub mod Step
pub mod Through
pub mod Absent
pub mod Written
