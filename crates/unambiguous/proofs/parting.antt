-- The square that decides whether an automaton is unambiguous: its start pairs, their flags, and what it accepts.
pub mod Decided
pub mod Flagged
pub mod Parted
pub mod Tails
