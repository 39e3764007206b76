pub mod Fields
pub mod Record
pub mod Edit
pub mod Demand
pub mod Table
pub mod Layout
pub mod Change
pub mod Opened
