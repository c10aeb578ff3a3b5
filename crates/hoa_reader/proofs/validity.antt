-- The rules.
pub mod AllDiffer
pub mod FirstInList
pub mod Leaves
pub mod NamesDiffer
pub mod RisingNumbers
pub mod RuleParts
pub mod ValidityLaws
