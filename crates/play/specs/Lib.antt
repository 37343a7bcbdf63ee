pub mod Refusals
pub mod Played
pub mod Told
pub mod Wording
