pub mod Answers
pub mod Feeding
pub mod Reads
pub mod Texts
