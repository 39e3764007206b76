pub mod Handed
pub mod Edit
pub mod Log
pub mod Question
pub mod QuestionCalls
