pub mod Leasts
pub mod Judged
pub mod Decided
