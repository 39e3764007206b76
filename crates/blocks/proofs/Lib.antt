pub mod Records
pub mod Ways
pub mod Walks
pub mod Laid
pub mod OneAnswer
pub mod RuledOut
pub mod Excluded
