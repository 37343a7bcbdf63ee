pub mod Layout
pub mod Fill
pub mod Walk
pub mod Answer
pub mod View
