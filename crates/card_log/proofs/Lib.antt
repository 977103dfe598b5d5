pub mod Differing
pub mod Lines
pub mod Steps
pub mod Joins
