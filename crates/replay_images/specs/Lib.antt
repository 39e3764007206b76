pub mod State
pub mod Event
