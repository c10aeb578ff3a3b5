-- Lists that are ordered, or related pair by pair, as the edges of a well-formed automaton are.
pub mod AllPairsOf
pub mod Climbing
pub mod JointMarks
pub mod Ordered
pub mod Rising
pub mod RisingLists
pub mod SetBits
pub mod WellFormed
