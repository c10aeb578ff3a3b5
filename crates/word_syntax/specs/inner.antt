-- Definitions that only the contracts of inner functions use.
pub mod Chains
pub mod Fronts
pub mod Machine
pub mod Nexts
pub mod Runs
pub mod Periods
pub mod Reading
