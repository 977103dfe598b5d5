pub mod Lines
pub mod Steps
pub mod Undefined
