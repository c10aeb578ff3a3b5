pub mod Atoms
pub mod Dual
pub mod Joined
pub mod Parity
pub mod Shift
pub mod Terms
pub mod inner
