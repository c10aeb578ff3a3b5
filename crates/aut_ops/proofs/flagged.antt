-- Automata restricted to flagged states: their edges, their renumbering, trimming and pruning.
pub mod Alone
pub mod Between
pub mod FlagLaws
pub mod SomeFlags
pub mod Ranks
pub mod Renumbered
pub mod Trimmed
pub mod Useful
