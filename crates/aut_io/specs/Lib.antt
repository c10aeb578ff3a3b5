pub mod Codes
pub mod InMemory
pub mod Outside
pub mod Seen
