pub mod Emptiness
pub mod inner
