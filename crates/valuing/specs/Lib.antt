pub mod Answered
pub mod First
