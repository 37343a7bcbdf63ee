mod Ahead
mod Choosing
mod Chunked
pub mod Digests
mod Ending
mod Feeding
mod FromFn
mod Lanewise
mod Nodes
mod Pasted
mod Scheduled
mod Whole
