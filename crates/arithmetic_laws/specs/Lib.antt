pub mod Bits
pub mod Decimal
pub mod Increment
pub mod Results
pub mod Rotate
pub mod Shown
pub mod Sums
pub mod Wide
