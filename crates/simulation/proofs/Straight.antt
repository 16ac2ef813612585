pub mod Instructions
pub mod Variables
pub mod Operations
pub mod Outcomes
pub mod Effects
pub mod Lifts
pub mod Memories
pub mod Bulk
