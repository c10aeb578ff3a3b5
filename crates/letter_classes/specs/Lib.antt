pub mod ClassForms
pub mod Known
pub mod SetClasses
pub mod Taken
