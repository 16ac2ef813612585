pub mod Bytes
pub mod Chunks
pub mod Crowds
pub mod Halves
pub mod Ending
pub mod Errors
pub mod Exclusive
pub mod Feeding
mod Flows
pub mod Numbers
mod Rests
pub mod Single
pub mod Sources
pub mod Workers
pub mod Intakes
