pub mod Memory
pub mod Boards
