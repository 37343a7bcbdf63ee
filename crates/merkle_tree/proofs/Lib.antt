pub mod Scaled
pub mod Parts
pub mod Kept
pub mod Fills
pub mod Grows
pub mod Subtrees
pub mod Walks
