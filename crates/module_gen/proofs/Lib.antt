pub mod Spellings
pub mod Lists
pub mod Shortest
