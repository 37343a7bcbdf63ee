mod Found
mod Tellings
