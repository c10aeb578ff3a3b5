-- Labels, aliases, states and marks, one after the other.
pub mod AliasNames
pub mod CubeLabels
pub mod CubeShapes
pub mod ExpandedLabels
pub mod LetterTruth
pub mod LettersApart
pub mod LinkedEdges
pub mod MarksBelow
pub mod Meanings
pub mod MergedMarks
pub mod RisingStates
pub mod StartsAndMarks
pub mod StatePlaces
pub mod WrittenGuards
pub mod WrittenLabels
