-- What is described.
pub mod Built
pub mod DescribingExamples
pub mod Framed
pub mod Headers
pub mod LabelsInRange
pub mod OneMore
pub mod OneWay
pub mod Refusals
pub mod StatesInRange
pub mod WellFormed
