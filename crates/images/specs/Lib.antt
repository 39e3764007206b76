pub mod Text
pub mod Word
pub mod Number
pub mod Ack
pub mod Popup
pub mod Fields
pub mod Values
pub mod Record
