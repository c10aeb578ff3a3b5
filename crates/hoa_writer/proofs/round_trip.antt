-- The canonical text reads back.
pub mod CanonicalLines
pub mod CanonicalTrees
pub mod ReadBack
pub mod ReadBackMeaning
pub mod ReadBackRules
pub mod ReadBackTokens
