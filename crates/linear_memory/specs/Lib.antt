pub mod Linear
pub mod LinearLending
pub use Rattle.rv_isa.specs.Values
pub use Rattle.rv_isa.specs.Steps
