pub mod Replies
pub mod Modules
pub mod Sources
