pub mod Runs
pub mod Rising
pub mod Inverse
pub mod Bounds
pub mod Parts
pub mod Share
pub mod Amount
pub mod Step
