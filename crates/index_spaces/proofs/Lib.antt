pub mod SpaceLaws
pub mod EntriesOfItems
pub mod LikeLaws
pub mod TypeSpaces
pub mod SmallTypes
