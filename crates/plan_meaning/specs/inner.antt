-- Definitions that only the contracts of private functions use.
pub mod Beside
pub mod Faults
pub mod Judging
pub mod Stepping
