pub mod Settling
pub mod Pumping
pub mod Chunking
pub mod Fronts
pub mod Arriving
pub mod Keeping
pub mod Answers
