pub mod Numbers
pub mod Rows
pub mod Walks
pub mod ArgumentWords
pub mod Passing
pub mod Readings
pub mod Commands
pub mod FoundWords
