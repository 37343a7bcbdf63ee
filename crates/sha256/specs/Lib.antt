pub mod Lanes
pub mod Standard
pub mod Steps
pub mod Streaming
pub mod Theorems
