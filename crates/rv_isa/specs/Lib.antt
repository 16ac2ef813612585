pub mod Words
pub mod Stored
pub mod Values
pub mod Steps
pub mod Runs
pub mod Laws
pub mod Registers
