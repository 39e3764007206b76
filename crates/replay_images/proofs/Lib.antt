pub mod Put
pub mod OneAnswer
pub mod RuledOut
