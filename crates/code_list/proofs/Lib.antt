pub mod Ends
pub mod Pushed
