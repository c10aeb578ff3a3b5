pub mod Explorations
pub mod Faults
pub mod TransitionFunctions
pub mod Reached
pub mod Turns
