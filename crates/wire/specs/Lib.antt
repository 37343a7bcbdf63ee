pub mod Refusals
pub mod Kinds
pub mod Taking
pub mod Views
pub mod Sound
pub mod Reading
