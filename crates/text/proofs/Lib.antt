pub mod Written
pub mod Numbers
pub mod Readings
pub mod Splitting
