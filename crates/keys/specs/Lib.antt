pub mod Filled
pub mod Key
pub mod Most
pub mod Sums
