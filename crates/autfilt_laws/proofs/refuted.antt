-- Under `--refute` a line is due of each automaton that is kept, unless a limit is passed.
mod Searching
mod Covering
mod Shortening
mod Deciding
mod Respelling
mod Restricting
pub mod Refuting
pub mod Due
