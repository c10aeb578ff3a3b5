-- From an accepting run to a stable green name of the trees along it.
pub mod Names
pub mod RunSteps
pub mod Runs
pub mod Steps
