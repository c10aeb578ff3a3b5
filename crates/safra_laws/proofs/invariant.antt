-- What holds of every tree, and what a step depends on.
pub mod Canonical
pub mod FewNames
pub mod FirstTree
pub mod Root
pub mod RootMoves
