pub mod Worth
pub mod Further
pub mod Laws
