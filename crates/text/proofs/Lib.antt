pub mod Digits
pub mod Before
pub mod Behind
pub mod OneAnswer
pub mod RuledOut
