pub mod Underway
pub mod TransitionLaws
pub mod Spanning
