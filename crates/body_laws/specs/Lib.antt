pub mod WrongFields
pub mod WrongTokens
pub mod WrongLocals
pub mod Reading
pub mod Spelled
