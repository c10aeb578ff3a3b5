-- Laws of stored trees.
pub mod EqualTrees
pub mod PackedTrees
pub mod SameTrees
pub mod StoredTrees
