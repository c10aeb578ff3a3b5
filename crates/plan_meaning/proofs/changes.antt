-- What the changes of a plan make of an automaton, and what is promised of it.
pub mod ChangeExamples
pub mod ChangeLaws
pub mod ChangeLists
pub mod Combinations
pub mod Determinised
pub mod DisjunctiveForm
pub mod Monitored
pub mod PlanChanges
pub mod Promised
pub mod Shapings
pub mod SomeChanges
pub mod Stepping
