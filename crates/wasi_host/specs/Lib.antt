pub mod Vectors
pub mod Answers
pub mod ExitCodes
pub mod Sinks
pub mod Fitting
pub mod Own
pub mod Hosted
