pub mod Walked
pub mod Met
pub mod Ready
