pub mod TextLaws
pub mod StepLaws
pub mod Chunks
pub mod Parts
pub mod OneAnswer
pub mod Earned
pub mod Example
pub mod RuledOut
