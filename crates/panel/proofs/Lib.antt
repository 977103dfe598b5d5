pub mod Sums
pub mod Following
pub mod Tables
pub mod Joining
pub mod Walks
pub mod Finding
pub mod Histories
pub mod Scripting
