pub mod Sorts
pub mod Ways
