pub mod Slots
pub mod Macros
pub mod Bodies
pub mod BulkWords
pub mod Templates
pub mod Traps
pub mod Functions
pub mod Laws
