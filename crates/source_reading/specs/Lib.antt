pub mod Received
pub mod Reading
pub mod Compiling
pub mod Chunks
pub mod Keeping
pub mod Arriving
