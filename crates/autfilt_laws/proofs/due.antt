-- Under each plan a text is due of each automaton that is kept, unless a limit is passed.
mod Combined
mod Determined
mod FewStates
mod Formed
mod Lines
mod Names
mod Shaped
mod Sizes
pub mod Changed
pub mod Due
