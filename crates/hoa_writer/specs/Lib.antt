pub mod CanonicalText
pub mod CanonicalTextExamples
pub mod CanonicalWritten
pub mod inner
