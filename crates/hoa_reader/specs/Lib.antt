pub mod Counts
pub mod Described
pub mod DescribingExamples
pub mod DescribingLaws
pub mod Elaborating
pub mod Validity
pub mod inner
