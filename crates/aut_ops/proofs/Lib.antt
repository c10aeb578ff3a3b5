pub mod flagged
pub mod following
pub mod joint_runs
pub mod links
pub mod pairs
pub mod sinks
