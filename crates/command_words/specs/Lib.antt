pub mod Grammar
pub mod Arguments
