pub mod ClassEdges
pub mod ClassForms
pub mod ClassGuards
pub mod ClassTruths
pub mod KnownLists
pub mod ReadEdges
pub mod SetGuards
pub mod Told
