pub mod NameLaws
pub mod Answers
pub mod RuledOut
