-- Definitions that only inner functions speak in.
pub mod Built
pub mod Cubes
pub mod Frames
pub mod Gathered
pub mod Growing
pub mod Headers
pub mod Implicit
pub mod Links
pub mod Numbers
pub mod PickedOut
pub mod Places
pub mod Rising
pub mod Sums
pub mod TreeEdges
pub mod Weighing
