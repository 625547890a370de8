pub mod Block
pub mod States
