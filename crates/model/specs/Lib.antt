pub mod Lists
pub mod Objects
pub mod World
pub mod Rules
pub mod Guarantees
pub mod Cases
