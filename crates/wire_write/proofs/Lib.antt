pub mod Appended
pub mod Short
