pub mod Causes
pub mod Streams
pub mod Stops
pub mod PageState
pub mod PiecesState
pub mod EdgeState
