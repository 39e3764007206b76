pub mod Command
pub mod Reading
pub mod Writing
pub mod Kind
pub mod Closing
