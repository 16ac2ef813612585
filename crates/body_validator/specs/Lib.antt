pub mod Checking
pub mod Exactness
pub mod Stacks
pub mod Kept
pub mod Exchange
pub mod Scopes
pub mod Checks
pub mod Runs
