pub mod Executing
pub mod Refresh
pub mod Spare
pub mod Fetches
pub mod Room
