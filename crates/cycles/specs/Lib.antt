pub mod Tree
pub mod Play
pub mod Footprint
