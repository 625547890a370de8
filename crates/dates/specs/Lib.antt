pub mod Dated
pub mod Back
pub mod Layer
