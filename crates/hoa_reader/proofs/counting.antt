-- What is counted.
pub mod AfterAll
pub mod BodySums
pub mod EdgeCounts
pub mod PassedFirst
pub mod PlainLabels
pub mod Weights
