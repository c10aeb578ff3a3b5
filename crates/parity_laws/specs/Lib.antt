pub mod Buchi
pub mod Classes
pub mod Complement
pub mod Determinised
pub mod Example
pub mod Explored
