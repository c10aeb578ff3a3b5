-- How the functions of the descent read.
pub mod Atoms
pub mod Automata
pub mod Bodies
pub mod Chains
pub mod ConditionChains
pub mod ConditionReads
pub mod FailedParts
pub mod FrontParts
pub mod ItemsRead
pub mod LabelChains
pub mod LabelReads
pub mod Loops
pub mod RuleParts
pub mod Sets
pub mod Steps
