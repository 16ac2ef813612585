pub mod Functions
pub mod Words
pub mod Modules
