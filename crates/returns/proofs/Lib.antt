pub mod Moved
pub mod Laws
pub mod Gathered
