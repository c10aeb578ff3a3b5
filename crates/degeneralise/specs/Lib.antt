pub mod Buchi
pub mod Faults
pub mod inner
