pub mod Reading
pub mod Putting
pub mod Back
pub mod OneAnswer
pub mod RuledOut
