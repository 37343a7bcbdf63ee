mod Decimals
pub mod Hexes
mod Cuts
mod Spoken
mod Faults
