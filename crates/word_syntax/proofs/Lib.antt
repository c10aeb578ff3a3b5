pub mod grammar
pub mod lassos
pub mod matching
pub mod printing
pub mod texts
