-- Definitions that only inner functions speak in.
pub mod AtHand
pub mod Chains
pub mod Expecting
pub mod Faults
pub mod HeldEdges
pub mod HeldEnds
pub mod Parsing
pub mod RuleReads
