pub mod Numbers
pub mod Rows
pub mod Shaped
pub mod Follows
pub mod Decoded
pub mod Signed
