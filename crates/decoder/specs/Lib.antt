pub mod Cb
pub mod Ed
pub mod Field
pub mod Indexed
pub mod IndexedCb
pub mod Main
