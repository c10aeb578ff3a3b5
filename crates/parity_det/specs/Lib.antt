pub mod Complements
pub mod Determinisation
pub mod Faults
pub mod Promises
pub mod inner
