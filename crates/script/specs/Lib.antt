pub mod Texts
pub mod Words
pub mod Grammar
pub mod Wording
