pub mod Branches
pub mod Every
pub mod Executing
pub mod Lasting
pub mod Repeats
pub mod Times
pub mod Running
pub mod Trapping
