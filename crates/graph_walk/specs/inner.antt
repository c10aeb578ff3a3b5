-- Definitions that only the contracts of inner functions use.
pub mod Back
pub mod Chains
pub mod Frames
pub mod Marks
pub mod Pass
pub mod Places
pub mod Search
