pub mod Running
pub mod Texts
pub mod Outputs
pub use Rattle.source_reading.specs.Received
pub use Rattle.source_reading.specs.Compiling
