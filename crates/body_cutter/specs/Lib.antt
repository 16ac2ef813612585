pub mod Bodies
pub mod Sections
pub mod Places
pub mod Queues
pub mod Walks
pub mod Cuttings
pub mod Held
