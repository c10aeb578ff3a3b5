-- Labels and conditions as trees: constructor by constructor, their parts, and their sizes.
pub mod FormulaSizes
pub mod FormulaTrees
pub mod LabelSizes
pub mod LabelTrees
pub mod Places
