pub mod Names
pub mod Reading
