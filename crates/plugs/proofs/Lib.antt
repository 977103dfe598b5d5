pub mod Placing
pub mod Plugging
