pub mod VectorLaws
pub mod FittingLaws
pub mod ExitLaws
pub mod OwnReplies
pub mod HostedEnds
pub mod HostedRuns
pub mod HostedSinks
