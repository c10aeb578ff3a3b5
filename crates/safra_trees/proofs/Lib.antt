pub mod flat_step
pub mod laws
pub mod list_step
