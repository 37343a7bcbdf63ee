pub mod Digests
pub mod Ways
pub mod Inclusion
pub mod Consistency
pub mod Rows
