pub mod Real
pub mod Claims
