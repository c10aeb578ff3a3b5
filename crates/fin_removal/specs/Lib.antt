pub mod Copies
pub mod Meeting
pub mod inner
