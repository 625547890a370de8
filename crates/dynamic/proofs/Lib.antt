pub mod Free
pub mod Further
