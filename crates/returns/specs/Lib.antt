pub mod Counted
pub mod Sorted
pub mod Grouped
