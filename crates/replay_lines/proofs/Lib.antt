pub mod TextLaws
pub mod Stepping
pub mod Listing
pub mod Replays
pub mod OneAnswer
pub mod RuledOut
