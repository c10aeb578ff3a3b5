-- The classes of what is alike under a list of guards: found by splitting, in order, and what holds of them.
pub mod ClassGuards
pub mod ClassLaws
pub mod ClassLeastLaws
pub mod ClassParts
pub mod Firsts
pub mod FoundClasses
pub mod PartsInOrder
