pub mod Grows
pub mod Ready
pub mod Written
pub mod Owned
