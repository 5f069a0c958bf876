pub mod Going
pub mod Steps
