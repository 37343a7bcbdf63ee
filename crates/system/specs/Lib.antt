pub mod Setup
pub mod Runs
pub mod Stands
pub mod Assured
