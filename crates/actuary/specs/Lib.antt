pub mod Unit
pub mod InForce
