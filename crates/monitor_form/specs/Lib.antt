pub mod Faults
pub mod Monitors
pub mod Prefixes
pub mod Subsets
