pub mod Sizes
pub mod Climbing
pub mod OnPath
pub mod OnProof
pub mod Rows
