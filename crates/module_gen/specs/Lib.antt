pub mod Numbers
pub mod Drill
