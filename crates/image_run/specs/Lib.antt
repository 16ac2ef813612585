pub mod Checks
pub mod Hosts
pub mod Ends
pub mod States
pub mod Sizes
pub mod Printing
pub mod Answers
pub mod WasiFunctions
