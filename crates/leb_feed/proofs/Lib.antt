pub mod Readings
pub mod Casts
pub mod Readers
pub mod Loops
pub mod Feeds
pub mod Texts
