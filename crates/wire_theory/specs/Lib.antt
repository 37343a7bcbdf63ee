pub mod Bytes
pub mod Messages
pub mod Shapes
pub mod Entries
pub mod Decode
pub mod Claims
