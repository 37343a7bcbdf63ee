pub mod Begun
pub mod Cut
pub mod Taken
pub mod Unknown
