pub mod Entries
pub mod EntryLaws
pub mod ItemLimits
pub mod Likes
pub mod Spaces
