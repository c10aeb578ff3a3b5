-- Completion by a sink: the edges of each state, runs into the sink, and sizes.
pub mod CompleteRuns
pub mod CompletedSizes
pub mod Completions
pub mod FilledStates
pub mod Rows
pub mod SinkRuns
pub mod SinkStates
