-- Labels and places: what a place says as a label, the place of a label by its parts, and its text by its cubes.
pub mod Conjunctions
pub mod LabelTruth
pub mod Lasts
pub mod Literals
pub mod Numbered
pub mod Parts
pub mod Pieces
pub mod PlaceCubes
pub mod Remembered
