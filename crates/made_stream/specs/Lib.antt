pub mod Made
pub mod MadeExamples
pub mod inner
